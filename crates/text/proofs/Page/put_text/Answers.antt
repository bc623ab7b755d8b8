use Rattle.std.proofs.Common.{refl, ap, length, ◌∙◌, arith}
use lib.Seq.{length-sets}
use Rattle.text.proofs.Bytes.{copied}
use Rattle.text.proofs.Page.put_text.Goals as goal

pub returns : goal.returns
returns c =
    let exits = copied c.args.self.now.out.now c.args.words.now _ c.args.self.now.size _ c.copy_from_slice.ensures.after (omega arith) c.requires in
    record {
      puts = record { ends = refl; exits = exits };
      same = refl;
      long = ap length exits ∙ length-sets c.args.self.now.out.now c.args.self.now.size c.args.words.now;
    }
