use Rattle.std.proofs.Common.{◌≡◌, ◌+◌, ◌-◌, ◌^◌, ◌<◌, ◌≤◌, drop}
use Rattle.std.specs.List.{sum_by}
use Rattle.std.specs.VecDeque.{deque_len, deque_capacity}
use Rattle.avs_mqueue.specs.Queue.{blocks_of_entry}
use Rattle.avs_mqueue.proofs.queue.MemQueue.advance.Given as goal

-- some entries from the first one on are gone, none of them above the place
abbrev pub invariant-loop-self : goal.invariant-loop-self
invariant-loop-self l =
    let start = l.initial.self-inside in
    let now = l.self-inside in
    record {
      later : start.first ≤ now.first;
      entries : now.entries.items ≡ drop (now.first - start.first) start.entries.items;
      next : now.first + deque_len now.entries ≡ start.first + deque_len start.entries;
      reached : now.first - start.first ≤ l.upto + 1 - start.first;
      blocks : now.blocks ≡ sum_by blocks_of_entry now.entries.items;
      within : now.blocks ≤ start.limits.blocks;
      small : now.blocks < 2 ^ 32;
      limits : now.limits ≡ start.limits;
      room : deque_capacity now.entries ≡ deque_capacity start.entries;
    }

abbrev pub decreases-loop-self : goal.decreases-loop-self
decreases-loop-self l = deque_len l.self-inside.entries
