use Rattle.xdr.proofs.WritingLaws.{wrote_then}
use Rattle.frame.specs.Recording.{verdict_line}
use Rattle.frame.proofs.verdict.put_line.Goals as goal

pub returns-in-Same : goal.returns-in-Same
unfolding verdict_line
returns-in-Same c = rw c.in-Same.is (wrote_then (wrote_then c.bytes.ensures c.put_number.ensures.written) c.bytes-in-Same.ensures)

pub returns-in-Differs : goal.returns-in-Differs
unfolding verdict_line
returns-in-Differs c =
    rw c.in-Differs.is
    (wrote_then (wrote_then c.put_number-in-Differs.ensures.written (wrote_then c.bytes-in-Differs.ensures c.put_number-in-Differs-2.ensures.written))
    c.bytes-in-Differs-2.ensures)

pub returns-in-Odd : goal.returns-in-Odd
unfolding verdict_line
returns-in-Odd c = rw c.in-Odd.is (wrote_then (wrote_then c.bytes-in-Odd.ensures c.put_number-in-Odd.ensures.written) c.bytes-in-Odd-2.ensures)
