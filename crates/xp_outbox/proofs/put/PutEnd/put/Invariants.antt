use Rattle.std.proofs.Common.{◌≡◌}
use Rattle.std.specs.Arc.{arc_value}
use Rattle.crossbeam_queue.specs.Passes.{view, IsPassOf}
use Rattle.xp_outbox.specs.steps.Rule.{putter}
use Rattle.xp_outbox.proofs.put.PutEnd.put.Given as goal

abbrev pub invariant-loop : goal.invariant-loop
invariant-loop g l = record {
  can_next : (goal.iterator-loop g).can_next l.iterator';
  is_finite : (goal.iterator-loop g).is_finite l.iterator';
  tied : IsPassOf (arc_value l.self-inside.queue) l.self-inside.pass;
  known : view l.self-inside.pass ≡ putter (view l.initial.self-inside.pass).put;
  table : l.self-inside.pass.table_id ≡ l.initial.self-inside.pass.table_id;
  queue : l.self-inside.queue ≡ l.initial.self-inside.queue;
  free : l.self-inside.free ≡ l.initial.self-inside.free;
  item : l.item ≡ l.initial.item;
}
