-- Each theorem of the list, where it is proved.
use Rattle.playback.proofs.Files.{any-split, not-a-session, none-stopped, stays-right, over-long}
use Rattle.playback.proofs.Plain.{printed}
use Rattle.playback.proofs.Determined.{window-determined, determined}
use Rattle.playback.proofs.Example.{example, cut-example}
use Rattle.playback.proofs.theorems.Goals as goal

pub returns : goal.returns
returns c = record {
  window-determined = window-determined;
  stops = λ w kept reply have left. w.rest (record { for-record = kept; for-reply = reply; for-have = have }) left;
  put = λ p. (p.ends, p.exits);
  any-split = any-split;
  printed = printed;
  determined = determined;
  not-a-session = not-a-session;
  none-stopped = none-stopped;
  stays-right = stays-right;
  over-long = over-long;
  example = example;
  cut-example = cut-example;
}
