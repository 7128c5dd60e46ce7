use Rattle.buslist.specs.Table.{settings_of}
use Rattle.buslist.proofs.list.BusList.settings.Goals as goal

pub returns : goal.returns
unfolding settings_of
returns c = cc
