use Rattle.std.proofs.Common.{◌≡◌, ℕ, [], ◌∷◌, ◌++◌, length, ap, ◌∙◌, append_assoc, w64, arith, length-append, rules}
use Rattle.std.specs.Fmt.{signed_decimal}
use Rattle.std.proofs.lemmas.Int.{to_z-of_z}
use Rattle.std.proofs.lemmas.Str.{length-encode}
use Rattle.statement.specs.Text.{statement_text}
use Rattle.statement.proofs.Short.{numbers, text_short, field_fits, fields_more, fields_then}
use Rattle.statement.proofs.statement.Statement.line.Goals as goal
use Rattle.statement.proofs.statement.Statement.line.Goals.{After-format-2}

pub push_str-requires : goal.push_str-requires
push_str-requires c =
    let fits = field_fits c.args.self.now c.loop-field.field-index c.loop-field-test.true in
    (omega arith, omega (arith, fits, ap length c.loop-field.invariant, ap length c.format.ensures.text, length-append {A = ℕ}))

pub push-requires : goal.push-requires
push-requires c =
    let fits = field_fits c.args.self.now c.loop-field.field-index c.loop-field-test.true in
    (omega arith, omega (arith, fits, ap length c.loop-field.invariant, ap length c.format.ensures.text, c.push_str.ensures.len, length-append {A = ℕ}, length-encode))

pub loop-field-preserved : goal.loop-field-preserved
loop-field-preserved c =
    let more = fields_more (numbers c.args.self.now) c.loop-field.field-index c.loop-field-test.true in
    let joined = append_assoc c.loop-field.line.bytes c.format.result.now (32 ∷ []) in
    cc (c.push.ensures.ascii (omega arith))

whole : (c : After-format-2) → (c.loop-field.line.bytes ++ c.format-2.result.now) ++ 10 ∷ [] ≡ statement_text c.args.self.now
whole c =
    let s = c.args.self.now in
    let text = c.format-2.ensures.text ∙ ap signed_decimal (to_z-of_z w64 s.net (search rules)) in
    fields_then s c.loop-field.field-index c.loop-field.line.bytes c.format-2.result.now c.loop-field-test.false c.loop-field.invariant text

pub push_str-requires-2 : goal.push_str-requires-2
push_str-requires-2 c = (omega arith, omega (arith, text_short c.args.self.now, ap length (whole c), length-append {A = ℕ}))

pub push-requires-2 : goal.push-requires-2
push-requires-2 c =
    let all = whole (goal.at.push-requires-2 c).After-format-2 in
    (omega arith, omega (arith, text_short c.args.self.now, ap length all, c.push_str-2.ensures.len, length-append {A = ℕ}, length-encode))
