-- Rule 10.5: the splitter's packets, sent to a front end.
use Rattle.std.specs.Prelude.{ℕ, ◌+◌, List}
use Rattle.gain_words.specs.Pairs.{expand}
use Rattle.front_end.specs.State.{State}
use Rattle.front_end.specs.Effects.{gains_with}
use Rattle.front_end.specs.Calls.{calls_of, state_after_all}
use Rattle.splitter.specs.Split.{split_packets}
use Rattle.end_to_end.specs.Delivery.{AllStored}

-- Rule 5.8: gains for a colour, from a start on, and nothing else: red, green or blue, a third of the table each, or all three.
pub data Blended (s : State) (start : ℕ) (new : List ℕ) : ℕ → State → Type 0 where
  red : Blended s start new 1 (gains_with s start new)
  green : Blended s start new 2 (gains_with s (2016 + start) new)
  blue : Blended s start new 3 (gains_with s (4032 + start) new)
  all : Blended s start new 0 (gains_with (gains_with (gains_with s start new) (2016 + start) new) (4032 + start) new)

-- Rule 10.5: the colour's gains from the start on have become what the pairs stand for, and nothing else has changed; every packet was
-- accepted, with no reply.
pub record GainsDelivered (colour start : ℕ) (ws : List ℕ) (s : State) (reply : List ℕ) : Type 0 where
  pub set : Blended s start (expand ws) colour (state_after_all (calls_of reply (split_packets colour start ws)) s)
  pub taken : AllStored (calls_of reply (split_packets colour start ws)) s
