-- What is found of sets on their disks.
use Rattle.std.proofs.Common.{◌≡◌, inl, inr, ℕ, ◌<◌, ◌≤◌, ◌^◌, Bool, true, false, ◌&&◌, cond, List, length, map, get_or, None, Some, ◌∙◌, sym, refl, ap, subst, arith}
use Rattle.std.specs.Prelude.{nat_lt}
use Rattle.std.proofs.Math.Path.{fun_ext}
use Rattle.std.proofs.Math.ListN.{get_or-map}
use Rattle.std.proofs.lemmas.List.{length-map, get_or_past}
use Rattle.std.proofs.lemmas.List.Elements.{All-get_or}
use Rattle.std.proofs.lemmas.Bool.{cases_lt}
use Rattle.std.proofs.lemmas.Bool.Decides.{nat_tests}
use Rattle.avs_seg.specs.Segment.{seg_count}
use Rattle.avs_dev.specs.Below.{BelowSeen, size_of}
use Rattle.avs_bits.specs.Bit.{disk_bit}
use Rattle.avs_bits.specs.BitSet.{set_of, place, IsOnDisk}
use Rattle.avs_sync.specs.Parts.{MirrorSet}
use Rattle.avs_halves.specs.SetBits.{SetBits, AreInStep, set_at, disk_at, due_of, has_bit, part_of, no_set, no_part}
use Rattle.avs_halves.specs.Loading.{LoadsSets, OpensSet}
use Rattle.avs_halves.specs.Found.{bit_found, due_found, part_at}
use Rattle.avs_halves.specs.Over.{AreLoadable, IsOver}

-- ---- parts of sets

pub part_is : (sets : List SetBits) (set : ℕ) → get_or (map part_of sets) set (part_of no_set) ≡ part_of (set_at sets set)
part_is sets set = get_or-map part_of sets set no_set

pub there_is : (sets : List SetBits) (set : ℕ) → nat_lt set (length (map part_of sets)) ≡ nat_lt set (length sets)
there_is sets set = ap (λ (n : ℕ). nat_lt set n) (length-map sets part_of)

pub below_is : (a b : ℕ) → nat_lt a b ≡ true → a < b
below_is a b on = grind (arith, nat_tests)

pub behind_is : (a b : ℕ) → nat_lt a b ≡ false → b ≤ a
behind_is a b off = grind (arith, nat_tests)

not_below : (seg segs : ℕ) (disk memory : Bool) → segs ≤ seg → (nat_lt seg segs && disk) ≡ (nat_lt seg segs && memory)
not_below seg segs disk memory high = grind (arith, nat_tests)

none_low : (seg : ℕ) (memory : Bool) → false ≡ (nat_lt seg 0 && memory)
none_low seg memory = grind (arith, nat_tests)

-- ---- a bit is found where it is in memory

pub bit_is : (there disk memory : Bool) (seg count segs : ℕ) → (there ≡ true → segs ≡ count) → (there ≡ false → segs ≡ 0) → (there ≡ true → seg < segs → disk ≡ memory) → ((there && nat_lt seg count) && disk) ≡ (nat_lt seg segs && memory)
bit_is true disk memory seg count segs same none step = rw (← same refl) (elim (cases_lt seg segs) [
  | inl low ↦ ap (λ (b : Bool). nat_lt seg segs && b) (step refl low)
  | inr high ↦ not_below seg segs disk memory high
])
bit_is false disk memory seg count segs same none step = rw (none refl) (none_low seg memory)

-- the bits that the disks hold are found
pub found_held : (new : BelowSeen) (sets : List SetBits) (bits : ℕ → ℕ → Bool) → ((set : ℕ) → IsOnDisk (disk_at sets set).image (set_at sets set).bits.segs (bits set)) → IsOver new sets
    → (set seg : ℕ) → bit_found new (map part_of sets) set seg ≡ (nat_lt seg (set_at sets set).bits.segs && bits set seg)
found_held new sets bits on_disk over set seg =
    (λ i. (there_is sets set i && nat_lt seg (seg_count (get_or new.sizes (part_is sets set i).vol 0))) && disk_bit (part_is sets set i).bits.image (place seg))
    ∙ bit_is (nat_lt set (length sets)) (disk_bit s.bits.disk.image (place seg)) (bits set seg) seg (seg_count (get_or new.sizes s.vol 0)) s.bits.segs
    (λ there. (over.each set (below_is set (length sets) there)).segs)
    (λ none. ap (λ (t : SetBits). t.bits.segs) (get_or_past sets set no_set (behind_is set (length sets) none)))
    (λ there low. (on_disk set).each seg low)
  where
    s : SetBits
    s = set_at sets set

pub found_bit : (new : BelowSeen) (sets : List SetBits) → AreInStep sets → IsOver new sets → (set seg : ℕ) → bit_found new (map part_of sets) set seg ≡ has_bit (set_at sets set) seg
found_bit new sets step over set seg = found_held new sets (λ t s. set_of (set_at sets t).bits s) (λ t. step.step t) over set seg

pub due_is : (new : BelowSeen) (sets : List SetBits) → AreInStep sets → IsOver new sets → due_found new (map part_of sets) ≡ due_of sets
due_is new sets step over = fun_ext (λ set. fun_ext (λ seg. ap (λ (b : Bool). cond b (Some 0) None) (found_bit new sets step over set seg)))

-- ---- sets as they were loaded

module _ (below : BelowSeen) (parts : List MirrorSet) (sets : List SetBits) (loads : LoadsSets below.sizes parts sets) where
  pub loaded_count : length sets ≡ length parts
  loaded_count = sym (length-map sets part_of) ∙ ap (λ (l : List MirrorSet). length l) loads.as_found

  pub loaded_part : (set : ℕ) → part_at parts set ≡ part_of (set_at sets set)
  loaded_part set = ap (λ (l : List MirrorSet). get_or l set no_part) (sym loads.as_found) ∙ part_is sets set

  pub loaded_set : (set : ℕ) → set < length sets → OpensSet below.sizes (part_of (set_at sets set)) (set_at sets set)
  loaded_set set there = All-get_or (λ s. OpensSet below.sizes (part_of s) s) sets set no_set there loads.each

  pub loaded_over : AreLoadable below parts → IsOver below sets
  loaded_over loadable = record {
    few = omega (arith, loaded_count, loadable.few);
    each = λ set there. let own = loadable.own set (omega (arith, there, loaded_count)) in record {
      there = subst (λ (m : MirrorSet). m.vol < length below.sizes) (loaded_part set) own.there;
      small = subst (λ (m : MirrorSet). size_of below m.vol ≤ 2 ^ 31) (loaded_part set) own.small;
      segs = (loaded_set set there).segs;
      slot = subst (λ (m : MirrorSet). m.slot < 16) (loaded_part set) own.slot;
    };
    apart = λ set other there also same. (loadable.own set (omega (arith, there, loaded_count))).volume other (omega (arith, also, loaded_count)) (ap (λ (m : MirrorSet). m.vol) (loaded_part other) ∙ same ∙ ap (λ (m : MirrorSet). m.vol) (sym (loaded_part set)));
    slots = λ set other there also same. (loadable.own set (omega (arith, there, loaded_count))).slots other (omega (arith, also, loaded_count)) (ap (λ (m : MirrorSet). m.slot) (loaded_part other) ∙ same ∙ ap (λ (m : MirrorSet). m.slot) (sym (loaded_part set)));
  }
