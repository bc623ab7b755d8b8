use Rattle.std.proofs.Common.{refl, ap, arith, ◌+◌}
use Rattle.playback.specs.Device.{state_of}
use Rattle.replay.proofs.FromReset.{start_of, one_more, Through, through-as, ran}
use Rattle.replay.proofs.run.Goals as goal
use Rattle.replay.proofs.run.Goals.{else-loop-test, then-loop-test+in_default}

pub loop-init : goal.loop-init
loop-init c = record { so_far = start_of c.requires.0 refl refl refl refl; goes_on = refl }

pub loop-preserved : goal.loop-preserved
loop-preserved c =
    record {
      so_far = one_more c.loop.invariant.so_far c.loop.invariant.goes_on c.one_window-s.ensures.taken (omega arith);
      goes_on = c.in-More.is;
    }

pub returns : goal.returns
returns c =
    let all : Through c.loop-test.s c.loop-test.kept (state_of c.loop-test.device) =
    elim c.loop-test.branch [
      | else-loop-test w ↦
          through-as w.s-is w.kept-is (ap state_of w.device-is)
          (record { count = c.loop.counter; far = c.loop.invariant.so_far; all = λ more. omega arith })
      | then-loop-test+in_default w ↦
          through-as w.s-is w.kept-is (ap state_of w.device-is)
          (record {
            count = c.loop.counter + 1;
            far = one_more c.loop.invariant.so_far c.loop.invariant.goes_on w.one_window-s.ensures.taken (omega arith);
            all = λ more. absurd (w.in_default.not-More more);
          })
    ] in
    ran all c.close.ensures
