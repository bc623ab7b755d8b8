use Rattle.std.proofs.Common.{sym, ◌∙◌}
use Rattle.session_file.proofs.Steps.{whole-step, more-step}
use Rattle.session_file.proofs.record_bytes.Goals as goal

pub returns-then-lies_whole : goal.returns-then-lies_whole
returns-then-lies_whole c = whole-step (sym c.lies_whole.ensures ∙ c.if-lies_whole.true) c.whole_in.ensures

pub returns : goal.returns
returns c =
    let more = c.more.ensures in
    more-step c.requires.0 c.requires.1 more.0 more.1 more.2 more.3 (sym c.lies_whole.ensures ∙ c.if-lies_whole.false)
