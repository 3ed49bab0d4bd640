use Rattle.std.proofs.Common.{rules, arith}
use Rattle.std.proofs.lemmas.Result.{err_from_is_err_and}
use Rattle.settlement.specs.Runs.{Priced, FirstBytesDecide}
use Rattle.settlement.specs.declared.start.TheConstants.{TERMS_BYTES}
use Rattle.year_file.specs.declared.contents.TheConstants.{CONTENTS_BYTES}
use Rattle.settlement.proofs.Starts.{first_bytes_decide}
use Rattle.settlement.proofs.start.start.Goals as goal
use Rattle.settlement.proofs.start.start.Goals.{In_ok-priced}

priced : (c : In_ok-priced) → Priced c.args.terms.now c.in_ok-priced.priced
priced c = record { terms = c.in_ok-terms.terms; read = c.in_ok-terms.ensures.verdict; agreed = c.in_ok-priced.ensures.contract }

decide : FirstBytesDecide TERMS_BYTES CONTENTS_BYTES
decide = first_bytes_decide TERMS_BYTES CONTENTS_BYTES (omega arith) (omega arith)

pub returns-in_err-terms : goal.returns-in_err-terms
returns-in_err-terms c = record { started = search rules; first_bytes_decide = decide }

pub returns-in_err-priced : goal.returns-in_err-priced
returns-in_err-priced c = record { started = search rules; first_bytes_decide = decide }

pub returns-in_err-contents : goal.returns-in_err-contents
returns-in_err-contents c =
    let p = err_from_is_err_and c.from_residual-in_err-contents.result c.from_residual-in_err-contents.ensures.1 in
    rw (p.1, p.2) (record {
      started = (c.in_ok-priced.priced, (priced (goal.at.returns-in_err-contents c).In_ok-priced, c.in_err-contents.ensures.verdict));
      first_bytes_decide = decide;
    })

pub returns : goal.returns
returns c = record {
  started = (c.in_ok-priced.priced, (priced (goal.at.returns c).In_ok-priced, c.open.ensures, c.in_ok-contents.ensures.verdict));
  first_bytes_decide = decide;
}
