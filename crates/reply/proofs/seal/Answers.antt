-- The head's stores, and with a checksum one more behind them, put the reply over the buffer.
use mathlib.Core.Bool.{true, false}
use native.Mathlib.Omega.{arith}
use Rattle.reply.proofs.Laws.{sealed-length, sealed-plain, sealed-summed}
use Rattle.reply.proofs.seal.Goals as goal

pub returns-then-checksum : goal.returns-then-checksum
returns-then-checksum c = let args = c.args in
    let room = c.requires.1 in
    rw c.if-checksum.true (
      omega (arith, sealed-length args.status args.n args.reply.now room true),
      rw (c.put_byte.ensures, c.checksum-check.ensures.0)
          (sealed-summed args.status args.n args.reply.now room c.put_word.new.dst c.put_word.ensures),
    )

pub returns : goal.returns
returns c = let args = c.args in
    let room = c.requires.1 in
    rw c.if-checksum.false (
      omega (arith, sealed-length args.status args.n args.reply.now room false),
      rw c.put_word.ensures (sealed-plain args.status args.n args.reply.now room),
    )
