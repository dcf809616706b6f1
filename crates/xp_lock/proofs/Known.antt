-- What entries put out is in the outboxes, and how many places of these were free before.
use Rattle.std.proofs.Common.{◌≡◌, ℕ, ◌+◌, ◌≤◌, true, List, [], ◌∷◌, ◌++◌, length, sym, refl, ap, arith, append_assoc, append-nil}
use Rattle.xp_outbox.specs.Ends.{Putting}
use Rattle.xp_step.specs.declared.entry.Entry.{Entry}
use Rattle.xp_step.specs.declared.output.Outgoing.{Outgoing}
use Rattle.xp_machine.specs.Channel.{is_off}
use Rattle.xp_machine.specs.World.{World, state_at}
use Rattle.xp_lock.specs.Outboxes.{outbox_at}
use Rattle.xp_lock.specs.steps.Outboxes.{HasRoomFor, IsAlike, IsPut}
use Rattle.xp_lock.specs.Outgoing.{put_out_to}
use Rattle.xp_lock.specs.Locked.{IsGiven}
use Rattle.xp_lock.proofs.GivenLines.{count_more, put_more}

-- how many places there may turn out to be: no fewer than are known, and no more of a line out of service, at which none looks
pub record MayBe (world : World) (known places : ℕ → ℕ) : Type 0 where
  pub more : (line : ℕ) → known line ≤ places line
  pub same : (line : ℕ) → is_off (state_at world line) ≡ true → places line ≡ known line

module _ {A : Type 0} where
  -- how many places of a line's outbox were free before these entries, as far as is known
  abbrev pub known_before : List (Entry A) → List (Putting (Outgoing A)) → ℕ → ℕ
  known_before entries outboxes line = (outbox_at outboxes line).free + length (put_out_to line entries)

  -- what these entries put out was put into the outboxes
  abbrev pub AreGivenOut : List (Putting (Outgoing A)) → List (Entry A) → List (Putting (Outgoing A)) → Type 0
  AreGivenOut outboxes entries after = (line : ℕ) → IsGiven (put_out_to line entries) (known_before entries after line) (outbox_at outboxes line) (outbox_at after line)

  pub none_out : (outboxes : List (Putting (Outgoing A))) → AreGivenOut outboxes [] outboxes
  none_out outboxes line = record { queue = refl; capacity = refl; put = sym (append-nil (outbox_at outboxes line).put); free = refl; known = omega arith }

  pub looked_out : (outboxes between after : List (Putting (Outgoing A))) (entries : List (Entry A)) → AreGivenOut outboxes entries between
      → ((line : ℕ) → IsAlike (outbox_at between line) (outbox_at after line)) → AreGivenOut outboxes entries after
  looked_out outboxes between after entries out alike line = grind arith

  -- as seen from outboxes before a look
  pub since_look : (first outboxes after : List (Putting (Outgoing A))) (entries : List (Entry A)) → ((line : ℕ) → IsAlike (outbox_at first line) (outbox_at outboxes line))
      → AreGivenOut outboxes entries after → AreGivenOut first entries after
  since_look first outboxes after entries alike out line = grind arith

  module _ (after last : List (Putting (Outgoing A))) (entries : List (Entry A)) (entry : Entry A) (room : HasRoomFor entry.outputs after) (put : IsPut entry.outputs after last) where
    pub as_many : (line : ℕ) → known_before (entries ++ entry ∷ []) last line ≡ known_before entries after line
    as_many line = let fits = room line in let left = ap (λ b. b.free) (put.each line) in omega (arith, fits, left, count_more line entries entry)

    pub more_out : (outboxes : List (Putting (Outgoing A))) → AreGivenOut outboxes entries after → AreGivenOut outboxes (entries ++ entry ∷ []) last
    more_out outboxes out line = grind (arith, append_assoc, as_many, put_more)
