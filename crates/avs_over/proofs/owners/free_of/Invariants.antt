use Rattle.std.proofs.Common.{◌≡◌, ℕ, ◌+◌, ◌<◌, ◌≤◌, length, take}
use Rattle.avs_over.specs.Slots.{without, used_in, given_to, owner_at}
use Rattle.avs_over.proofs.owners.free_of.Given as goal

abbrev pub invariant-loop-slot : goal.invariant-loop-slot
invariant-loop-slot l = record {
  len : length l.owners ≡ length l.fn.owners;
  freed : (k : ℕ) → k < l.slot → owner_at l.owners k ≡ without l.set (owner_at l.fn.owners k);
  rest : (k : ℕ) → l.slot ≤ k → owner_at l.owners k ≡ owner_at l.fn.owners k;
  count : used_in l.owners + l.freed ≡ used_in l.fn.owners;
  own : l.freed ≡ given_to l.set (take l.slot l.fn.owners);
  few : l.freed ≤ l.slot;
}
