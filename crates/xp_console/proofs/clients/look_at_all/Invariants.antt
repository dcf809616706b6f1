use Rattle.std.proofs.Common.{◌-◌, ◌<◌, ◌≤◌, All, Contains, length, map, take}
use Rattle.xp_console.specs.Clients.{IsAnswered}
use Rattle.xp_console.proofs.clients.look_at_all.Given as goal

-- those up to this place are young
abbrev pub invariant-loop-place : goal.invariant-loop-place
invariant-loop-place g l = record {
  within : l.place ≤ length (map (λ client. client.ends) l.clients.items);
  fewer : length (map (λ client. client.ends) l.clients.items) ≤ length (map (λ client. client.ends) l.fn.clients.items);
  kept : All (Contains (map (λ client. client.ends) l.fn.clients.items)) (map (λ client. client.ends) l.clients.items);
  young : All (λ ends. l.moment < ends) (take l.place (map (λ client. client.ends) l.clients.items));
  answered : IsAnswered g.S.Service.answers l.fn.service l.service;
}

abbrev pub decreases-loop-place : goal.decreases-loop-place
decreases-loop-place g l = length (map (λ client. client.ends) l.clients.items) - l.place
