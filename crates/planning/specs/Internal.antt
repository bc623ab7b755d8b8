-- The code's carried numbers as those of the definitions.
use Rattle.upload.specs.Internal as upload
use Rattle.planning.specs.declared.cost.CostBehind.{CostBehind}

abbrev pub cost_in : CostBehind → upload.CostBehind
cost_in p = upload.costs p.least p.two p.four p.six
