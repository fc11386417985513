use Rattle.std.proofs.Common.{sym, ap}
use Rattle.rules.specs.Listing.{bytes}
use Rattle.text.specs.Accounts.{word_of}
use Rattle.text.proofs.report.How.word.Goals as goal

pub returns-in-Over : goal.returns-in-Over
unfolding bytes
returns-in-Over c = ap word_of (sym c.in-Over.is)

pub returns-in-Idle : goal.returns-in-Idle
unfolding bytes
returns-in-Idle c = ap word_of (sym c.in-Idle.is)

pub returns-in-Open : goal.returns-in-Open
unfolding bytes
returns-in-Open c = ap word_of (sym c.in-Open.is)
