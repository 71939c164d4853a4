-- What a set keeps, whatever fails.
use Rattle.std.specs.Prelude.{◌≡◌, ◌≢◌, ℕ, ◌+◌, ◌*◌, ◌<◌, ◌≤◌, ◌^◌, List, length, take, Option, Some}
use Rattle.avs_seg.specs.Segment.{seg_count}
use Rattle.avs_dev.specs.Seen.{Seen}
use Rattle.avs_flip.specs.Areas.{Areas}
use Rattle.avs_over.specs.Slots.{Owners, used_in}
use Rattle.avs_entries.specs.Entries.{state_by, on_shadow, area_len}
use Rattle.avs_entries.specs.Slots.{IsClean}

-- of the own slots below one all but so many have a chunk, and no chunk below another one stands in its slot alone
pub record ArePassed (entries : ℕ → ℕ) (n : ℕ) (table : Owners) (low ahead due : ℕ) : Type 0 where
  pub inside : low ≤ length table
  pub kept : used_in (take low table) + ahead ≡ low
  pub settled : (c : ℕ) → c < due → c < n → state_by (entries c) ≢ on_shadow

-- what a set keeps of its disks, whatever fails: the shadow's has its own slots, and the bitmap's both areas
pub record IsKept (shadow : Option Seen) (own : ℕ) (areas : Areas) (blocks : ℕ) : Type 0 where
  pub room : (d : Seen) → shadow ≡ Some d → 64 * own ≤ d.size
  pub first : areas.first ≡ 1
  pub len : areas.len ≡ area_len (seg_count blocks)
  pub fits : areas.first + 2 * areas.len ≤ areas.disk.size
  pub small : blocks < 2 ^ 32
  pub few : own < 2 ^ 26

-- and of its entries in memory, the live ones and those that are staged
pub record AreHeld (areas : Areas) (memory next : List ℕ) (blocks : ℕ) : Type 0 where
  pub entries : length memory ≡ 512 * areas.len
  pub clean : IsClean memory (seg_count blocks)
  pub staged : length next ≡ 512 * areas.len
  pub staged_clean : IsClean next (seg_count blocks)
