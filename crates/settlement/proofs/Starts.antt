-- The first bytes of two texts decide how a run starts.
use Rattle.std.proofs.Common.{ℕ, ◌<◌, ◌≤◌, List, take, Ok, Err}
use Rattle.settlement.specs.declared.refused.RunRefusal.TheVariants as run
use Rattle.settlement.specs.Runs.{Priced, FirstBytesDecide}
use Rattle.terms.specs.declared.contract.PricedTerms.{PricedTerms}
use Rattle.terms_file.proofs.Verdicts as terms
use Rattle.year_file.proofs.Entries as contents

module _ (m n : ℕ) (over : 330 < m) (enough : 252 ≤ n) where
  priced_whole : (text : List ℕ) (p : PricedTerms) → Priced (take m text) p → Priced text p
  priced_whole text p h = record { terms = h.terms; read = terms.front_decides m over text (Ok h.terms) h.read; agreed = h.agreed }

  pub first_bytes_decide : FirstBytesDecide m n
  first_bytes_decide t y (Ok r) (p, (h, opened, c)) = (p, (priced_whole t p h, opened, contents.front_decides n enough y _ c))
  first_bytes_decide t y (Err (run.Terms e)) h = terms.front_decides m over t (Err e) h
  first_bytes_decide t y (Err (run.Price e)) (u, (h, refused)) = (u, (terms.front_decides m over t (Ok u) h, refused))
  first_bytes_decide t y (Err (run.Contents e)) (p, (h, c)) = (p, (priced_whole t p h, contents.front_decides n enough y _ c))
  first_bytes_decide t y (Err (run.Body month e)) h = h
  first_bytes_decide t y (Err run.BytesAfter) h = h
  first_bytes_decide t y (Err (run.Close month e)) h = h
