use Rattle.std.proofs.Common.{refl}
use Rattle.year_file.proofs.Entries.{sofar_none, sofar_more, bad_entry, bad_start, all_entries, one_contents}
use Rattle.year_file.proofs.contents.read_contents.Goals as goal

pub loop-i-init : goal.loop-i-init
loop-i-init c = sofar_none _ _ refl

pub returns-in_default-clause-verdict : goal.returns-in_default-clause-verdict
returns-in_default-clause-verdict c = bad_entry c.loop-i.invariant c.loop-i-test.true c.in_default.ensures

pub returns-in_default-clause-one_verdict : goal.returns-in_default-clause-one_verdict
returns-in_default-clause-one_verdict c = one_contents

pub returns-then-read-end-clause-verdict : goal.returns-then-read-end-clause-verdict
returns-then-read-end-clause-verdict c = bad_start c.loop-i.invariant c.loop-i-test.true c.in-Some.ensures c.if-read-end.true

pub returns-then-read-end-clause-one_verdict : goal.returns-then-read-end-clause-one_verdict
returns-then-read-end-clause-one_verdict c = one_contents

pub loop-i-preserved : goal.loop-i-preserved
loop-i-preserved c = sofar_more c.loop-i.invariant c.loop-i-test.true c.in-Some.ensures c.if-read-end.false

pub returns-clause-verdict : goal.returns-clause-verdict
returns-clause-verdict c = all_entries c.loop-i.invariant c.loop-i-test.false

pub returns-clause-one_verdict : goal.returns-clause-one_verdict
returns-clause-one_verdict c = one_contents
