use Rattle.std.proofs.Common.{arith}
use Rattle.std.proofs.lemmas.Grind.{common_steps}
use Rattle.client.proofs.OpenLaws.{good_end}
use Rattle.client.proofs.open.results_good.Goals as goal

pub returns-else-status-ne0 : goal.returns-else-status-ne0
returns-else-status-ne0 c = grind (arith, common_steps, good_end)
