-- The node number falls: a step of an ondemand is called for the same node, so the measure is twice the node, and one more for the step.
use Rattle.std.proofs.Common.{◌+◌, ◌*◌}
use Rattle.walker.proofs.step.Walk.+steps.Given as goal

abbrev pub decreases-step : goal.decreases-step
decreases-step l = 2 * l.node + 1

abbrev pub decreases-demand_step : goal.decreases-demand_step
decreases-demand_step l = 2 * l.node
