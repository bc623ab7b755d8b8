-- Each theorem of the list, where it is proved.
use Rattle.wire.proofs.Plain.{«pinned» as bytes-named}
use Rattle.gain_words.proofs.Plain.{«pinned» as pairs-named}
use Rattle.opcode.proofs.Plain.{«pinned» as bits-named}
use Rattle.packet.proofs.Determined.{«pinned» as packets-named, read-determined, make-determined, announced-determined}
use Rattle.reply.proofs.Plain.{«pinned» as replies-named}
use Rattle.reply.proofs.Determined.{«determined» as reply-determined}
use Rattle.row_mark.proofs.Plain.{«pinned» as mark-named}
use Rattle.rising.proofs.Determined.{«determined» as rising-determined}
use Rattle.front_end.proofs.Determined.{«pinned» as state-named, step-determined, reset-determined, rows-determined, rows-answer-determined}
use Rattle.front_end_bytes.proofs.Determined.{«pinned» as lent-named, step-determined-bytes, reset-determined-bytes}
use Rattle.compressor.proofs.Plain.{«pinned» as compress-named}
use Rattle.compressor.proofs.Determined.{«determined-numbers» as compress-numbers, «determined-bytes» as compress-bytes}
use Rattle.upload.proofs.Plain.{«pinned» as plans-named}
use Rattle.upload.proofs.Determined.{plan-determined, plan-determined-bytes, measure-determined, measure-determined-bytes}
use Rattle.batch.proofs.Plain.{«pinned» as gains-named}
use Rattle.splitter.proofs.Plain.{«pinned» as split-named}
use Rattle.splitter.proofs.Determined.{«determined-numbers» as split-numbers, «determined-bytes» as split-bytes}
use Rattle.planning.proofs.Plain.{«pinned» as plan-named}
use Rattle.playback.proofs.Plain.{«pinned» as device-named}
use Rattle.vermolgas.proofs.Determined.{read-c, make-c, reply-c, step-c, reset-c, rows-c, compress-c, split-c, plan-c}
use Rattle.promises.specs.Determined.{Named, OnNumbers, OnBytes, ForC}
use Rattle.promises.specs.Promised.{Promised}
use Rattle.promises.proofs.determined.Goals as goal

named : Named
named =
    record {
      bytes = bytes-named;
      bits = bits-named;
      pairs = pairs-named;
      packets = packets-named;
      replies = replies-named;
      mark = mark-named;
      state = state-named;
      lent = lent-named;
      plans = plans-named;
      gains = gains-named;
      compressing = compress-named;
      splitting = split-named;
      planning = plan-named;
      device = device-named;
    }

promised : Promised
promised =
    record {
      read = λ p a f. f.plain;
      make = λ op options d buffer m f. f.plain;
      reply = λ r sum a f. f.plain;
      rising = λ lists n f. f.plain;
      packet = λ p s reply o f. f.plain;
      reset = λ s o f. f.plain;
      rows = λ block status count lowest f. f.plain;
      rows-answer = λ block r f. f.plain;
      compress = λ gains room o f. f.plain;
      split = λ colour start pairs batch o f. f.plain;
      plan = λ n held wanted before o f. f.plain;
      measure = λ n held wanted numbers many size room choices f. f.plain;
      packet-bytes = λ p l reply o f. f.plain;
      reset-bytes = λ l o f. f.plain;
      compress-bytes = λ gains room o f. f.plain;
      split-bytes = λ colour start pairs batch o f. f.right.plain;
      plan-bytes = λ n held wanted before o f. f.plain;
      measure-bytes = λ n held wanted room₀ choices₀ size room choices f. f.plain;
      read-c = λ p n f. f.plain;
      make-c = λ op options d buffer n left f. f.plain;
      reply-c = λ r sum n f. f.plain;
      packet-c = λ p l reply n left after f. f.plain;
      reset-c = λ l n left f. f.plain;
      rows-c = λ block n f. f.plain;
      compress-c = λ gains room n left f. f.plain;
      split-c = λ colour start pairs batch n left f. f.plain;
      plan-c = λ n held wanted before a left f. f.plain;
    }

on-numbers : OnNumbers
on-numbers =
    record {
      read = read-determined;
      make = make-determined;
      announced = announced-determined;
      reply = λ r sum a b f g. reply-determined f g;
      rising = λ lists m n f g. rising-determined f g;
      packet = step-determined;
      reset = reset-determined;
      rows = λ block status count lowest status' count' lowest' f g. rows-determined block f g;
      rows-answer = λ block r r' f g. rows-answer-determined block f g;
      compress = λ gains room o q f g. compress-numbers f g;
      split = λ colour start pairs batch o q f g. split-numbers f g;
      plan = plan-determined;
      measure = λ n held wanted numbers many size room choices size' room' choices' f g.
          let same = measure-determined n held wanted numbers many size room choices size' room' choices' f g in
          (same.sizes, same.rooms, same.choices-lists);
    }

on-bytes : OnBytes
on-bytes =
    record {
      packet = step-determined-bytes;
      reset = reset-determined-bytes;
      compress = λ gains room o q small small' f g. compress-bytes small small' f g;
      split = λ colour start pairs batch o q f g. split-bytes f g;
      plan = plan-determined-bytes;
      measure = λ n held wanted room₀ choices₀ size room choices size' room' choices' small small' f g.
          let same = measure-determined-bytes n held wanted room₀ choices₀ size room choices size' room' choices' small small' f g in
          (same.sizes, same.rooms, same.choices-lists);
    }

for-c : ForC
for-c =
    record {
      read = read-c;
      make = make-c;
      read-reply = reply-c;
      packet = step-c;
      reset = reset-c;
      rows = rows-c;
      compress = compress-c;
      split = split-c;
      plan = plan-c;
    }

pub returns : goal.returns
returns c = (named, promised, on-numbers, on-bytes, for-c)
