-- Each law of whole files, where it is proved.
use Rattle.session_file.proofs.File.{file-read, file-split}
use Rattle.session_file.proofs.theorems.Goals as goal

pub returns : goal.returns
returns c = record { read = file-read; any-split = file-split }
