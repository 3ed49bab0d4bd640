-- What reading a body says.
use Rattle.std.proofs.Common.{◌≡◌, ℕ, Bool, false, List, Ok, Err}
use Rattle.std.proofs.lemmas.Bool.{false≢true}
use Rattle.std.specs.Prelude.{Decides}
use Rattle.std.specs.List.{AllZip}
use Rattle.year_file.specs.declared.body.BodyRefusal.{BodyRefusal}
use Rattle.year_file.proofs.Bodies.{one_verdict}
use Rattle.records.specs.declared.slot.Slot.{Slot}
use Rattle.records.specs.Slots.{NoWorse}
use Rattle.rules.specs.declared.assessment.OpenMonth.{OpenMonth}
use Rattle.settlement.specs.Runs.{BodySays, BetterBody}

same_slots : (m : OpenMonth) (text : List ℕ) (s t : List Slot) → BodySays m text (Ok s) → BodySays m text (Ok t) → s ≡ t
same_slots m text s t first second = let e = one_verdict _ _ _ _ _ first second in cc

not_both : (m : OpenMonth) (text : List ℕ) (s : List Slot) (e : BodyRefusal) → BodySays m text (Ok s) → BodySays m text (Err e) → ⊥
not_both m text s e read refused = let e = one_verdict _ _ _ _ _ read refused in cc

module _ (m : OpenMonth) (better worse : List ℕ) where
  pub better_refused : (e : BodyRefusal) → BodySays m better (Err e) → Decides false (BetterBody m better worse)
  better_refused e refused = (λ h. absurd (false≢true h), λ b. absurd (not_both m better b.better_slots e b.better_read refused))

  pub worse_refused : (e : BodyRefusal) → BodySays m worse (Err e) → Decides false (BetterBody m better worse)
  worse_refused e refused = (λ h. absurd (false≢true h), λ b. absurd (not_both m worse b.worse_slots e b.worse_read refused))

  pub both_read : (s t : List Slot) (r : Bool) → BodySays m better (Ok s) → BodySays m worse (Ok t) → Decides r (AllZip NoWorse s t) → Decides r (BetterBody m better worse)
  both_read s t r first second decides = (
    λ h. record { better_slots = s; worse_slots = t; better_read = first; worse_read = second; no_slot_worse = decides.0 h },
    λ b.
        let e = same_slots m better b.better_slots s b.better_read first in
        let f = same_slots m worse b.worse_slots t b.worse_read second in
        decides.1 (rw (← e, ← f) b.no_slot_worse),
  )
