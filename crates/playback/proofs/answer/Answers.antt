use Rattle.std.proofs.Common.{refl, arith}
use lib.ListN.{length-take}
use Rattle.playback.proofs.Turns.{answer-done, reply-fits}
use Rattle.playback.proofs.answer.Goals as goal

pub replied-requires : goal.replied-requires
replied-requires c = (reply-fits _ _ _ c.handle-o.ensures.outcome).0

pub print_line-size-requires : goal.print_line-size-requires
print_line-size-requires c =
    let fits = (reply-fits _ _ _ c.handle-o.ensures.outcome).1 in
    (omega arith, rw c.replied.ensures (omega (arith, length-take c.handle-o.result.size c.handle-o.new.self.reply.now)))

pub returns-clause-answered : goal.returns-clause-answered
returns-clause-answered c =
    let put = rw (c.replied.ensures, c.status.ensures) at c.print_line-size.ensures.put in
    let reads = rw (c.replied.ensures, c.status.ensures) at c.print_line-size.ensures.reads in
    answer-done c.handle-o.ensures.outcome put c.print_line-size.ensures.most reads.0 reads.1 reads.2 refl refl refl refl
