-- What a set keeps, whatever fails, once a chunk was settled.
use Rattle.std.proofs.Common.{◌≡◌, ◌≢◌, ◌⊎◌, inl, inr, ℕ, ◌+◌, ◌*◌, ◌^◌, ◌-◌, ◌<◌, ◌≤◌, min, Bool, false, cond, List, length, take, Option, Some, None, is_some, Result, Ok, Err, OnOk, OnErr, refl, sym, ◌∙◌, ap, subst, arith}
use Rattle.std.specs.Prelude.{nat_lt}
use Rattle.std.proofs.lemmas.Bool.{cases_lt, false≢true, lt-ltb, le-ltb}
use Rattle.avs_seg.specs.Segment.{seg_count}
use Rattle.avs_dev.specs.Seen.{Seen}
use Rattle.avs_flip.specs.Areas.{Areas}
use Rattle.avs_bits.specs.Bit.{bit_of, IsPut}
use Rattle.avs_over.specs.Slots.{Owners, used_in}
use Rattle.avs_over.specs.Over.{OverSet}
use Rattle.avs_entries.specs.Entries.{entry_in, entry_for, state_by, slot_by}
use Rattle.avs_entries.specs.Slots.{IsClean, Marks, MarksSlot}
use Rattle.avs_entries.specs.Putting.{PutsEntry}
use Rattle.avs_entries.specs.Tallied.{AreTallied, Changes}
use Rattle.avs_entries.specs.declared.marks.Counts.{Counts}
use Rattle.avs_entries.specs.declared.tally.Tally.{Tally}
use Rattle.avs_entries.proofs.Tallied.{tally_set, reach_same, reach_none}
use Rattle.avs_entries.specs.Counting.{IsMapped}
use Rattle.avs_entries.proofs.Mapped.{mapped_cleared, mapped_same}
use Rattle.avs_compact.specs.CompactSet.{disk_of}
use Rattle.avs_compact.specs.Kept.{IsKept, AreHeld, ArePassed}
use Rattle.avs_compact.specs.Steps.{TakesSlot}
use Rattle.avs_compact.proofs.Kept.{kept_more, kept_all}
use Rattle.avs_compact.proofs.Placed.{SetsOne, marks_new, marks_old, passed_new, passed_old}
use Rattle.avs_compact.proofs.Settled.{IsNewEntry, target_some}
use Rattle.avs_compact.proofs.SettlingNew.{new_entry}

none_some : (d : Seen) → None ≡ Some d → ⊥
none_some d e = cc

-- the disk that is there has room
room_again : (n : ℕ) (shadow X : Option Seen) → ((d : Seen) → shadow ≡ Some d → n ≤ d.size) → is_some X ≡ is_some shadow → (disk_of X).size ≡ (disk_of shadow).size → (d : Seen) → X ≡ Some d → n ≤ d.size
room_again n None None room still size d e = absurd (none_some d e)
room_again n None (Some b) room still size d e = absurd (false≢true (sym still))
room_again n (Some a) None room still size d e = absurd (none_some d e)
room_again n (Some a) (Some b) room still size d e = subst (λ (k : Seen). n ≤ k.size) (ap (λ (x : Option Seen). disk_of x) e) (subst (λ (k : ℕ). n ≤ k) (sym size) (room a refl))

pub kept_again : (shadow X : Option Seen) (own : ℕ) (areas a' : Areas) (blocks : ℕ) → IsKept shadow own areas blocks → is_some X ≡ is_some shadow → (disk_of X).size ≡ (disk_of shadow).size
    → a' ≡ record areas { disk = a'.disk } → a'.disk.size ≡ areas.disk.size → IsKept X own a' blocks
kept_again shadow X own areas a' blocks p still size place disk =
    let first : a'.first ≡ areas.first = ap (λ (a : Areas). a.first) place in
    let len : a'.len ≡ areas.len = ap (λ (a : Areas). a.len) place in
    record {
      room = room_again (64 * own) shadow X p.room still size;
      first = first ∙ p.first;
      len = len ∙ p.len;
      fits = omega (arith, first, len, disk, p.fits);
      small = p.small;
      few = p.few;
    }

-- the live entries, or the staged ones, were changed in memory
pub held_again : (areas a' : Areas) (memory M' next : List ℕ) (blocks : ℕ) → AreHeld areas memory next blocks → a' ≡ record areas { disk = a'.disk } → length M' ≡ length memory → IsClean M' (seg_count blocks) → AreHeld a' M' next blocks
held_again areas a' memory M' next blocks p place long clean =
    let len : a'.len ≡ areas.len = ap (λ (a : Areas). a.len) place in
    record {
      entries = omega (arith, long, len, p.entries);
      clean = clean;
      staged = omega (arith, len, p.staged);
      staged_clean = p.staged_clean;
    }

pub held_next : (areas : Areas) (memory next N : List ℕ) (blocks : ℕ) → AreHeld areas memory next blocks → length N ≡ length next → IsClean N (seg_count blocks) → AreHeld areas memory N blocks
held_next areas memory next N blocks p long clean = record {
  entries = p.entries;
  clean = p.clean;
  staged = long ∙ p.staged;
  staged_clean = clean;
}

pub clean_put : (old new : List ℕ) (chunk n : ℕ) → ((d : ℕ) → d ≢ chunk → entry_in new d ≡ entry_in old d) → chunk < n → IsClean old n → IsClean new n
clean_put old new chunk n others there p = record { each = λ c past. others c (λ e. omega (arith, e, past, there)) ∙ p.each c past }

-- a slot is kept
pub passed_ahead : (f : ℕ → ℕ) (own n : ℕ) (T : Owners) (counts : Counts) (low ahead due slot by : ℕ) (o o1 : OverSet) → Marks f own n T counts → ArePassed f n T low ahead due → TakesSlot T low by o (Some slot) o1 → (L k : ℕ) → L ≡ min own (slot + 1) → k ≡ cond (nat_lt slot own) 1 0
    → ArePassed f n T L (ahead + k) due
passed_ahead f own n T counts low ahead due slot by o o1 p a t L k is more = record {
  inside = omega (arith, is, p.long);
  kept = elim (cases_lt slot own) [
    | inl lt ↦
        let there : slot < length T = omega (arith, lt, p.long) in
        let e : L ≡ slot + 1 = omega (arith, is, lt) in
        let one : k ≡ 1 = more ∙ ap (λ (b : Bool). cond b 1 0) (lt-ltb slot own lt) in
        ap (λ (j : ℕ). used_in (take j T) + (ahead + k)) e ∙ ap (λ (j : ℕ). used_in (take (slot + 1) T) + (ahead + j)) one ∙ kept_more T low ahead a.inside a.kept slot (t.least there).0 there (t.own there).0 (t.least there).1 ∙ sym e
    | inr past ↦
        let behind : length T ≤ slot = omega (arith, past, p.long) in
        let e : L ≡ length T = omega (arith, is, past, p.long) in
        let none : k ≡ 0 = more ∙ ap (λ (b : Bool). cond b 1 0) (le-ltb slot own past) in
        let all = kept_all T low ahead a.inside a.kept (t.full behind) in
        ap (λ (j : ℕ). used_in (take j T) + (ahead + k)) e ∙ omega (arith, none, all) ∙ sym e
  ];
  settled = a.settled;
}

-- the entry of a chunk was set in memory
module _ (memory M' : List ℕ) (chunk target slot n : ℕ) (puts : PutsEntry memory M' chunk (entry_for target slot)) (there : chunk < n) (targets : (target ≡ 2) ⊎ (target ≡ 1)) (small : slot < 2 ^ 30 - 1) where
  is_new : IsNewEntry (entry_for target slot) target slot
  is_new = new_entry target slot targets small

  pub sets : SetsOne (entry_in memory) (entry_in M') n chunk slot
  sets = record {
    there = there;
    some = λ z. is_new.some (sym puts.now ∙ z);
    form = rw puts.now is_new.form;
    slot_is = rw puts.now is_new.slot_is;
    others = λ c lt ne. puts.others c ne;
  }

  state_now : state_by (entry_in M' chunk) ≢ 3
  state_now three = (target_some target targets).1 (sym is_new.state ∙ ap state_by (sym puts.now) ∙ three)

  pub clean_again : IsClean memory n → IsClean M' n
  clean_again p = record { each = λ c past. puts.others c (λ e. omega (arith, e, past, there)) ∙ p.each c past }

  -- in a slot that the chunk had, or in one that was taken
  pub had_tally : (own : ℕ) → entry_in memory chunk ≢ 0 → slot ≡ slot_by (entry_in memory chunk) → (a b : Tally) → AreTallied (entry_in memory) own n a → Changes a own (entry_in memory chunk) (entry_for target slot) b → AreTallied (entry_in M') own n b
  had_tally own some is a b p q = tally_set (entry_in memory) (entry_in M') own n chunk (entry_in memory chunk) (entry_for target slot) there puts.others refl puts.now
      (reach_same own (entry_in memory chunk) (entry_for target slot) some is_new.some (is_new.slot_is ∙ is)) a b p q

  pub took_tally : (own : ℕ) → entry_in memory chunk ≡ 0 → (a b : Tally) → AreTallied (entry_in memory) own n a → Changes a own 0 (entry_for target slot) b → AreTallied (entry_in M') own n b
  took_tally own none a b p q = tally_set (entry_in memory) (entry_in M') own n chunk 0 (entry_for target slot) there puts.others none puts.now (let r = reach_none own 0 (inl refl) in omega (arith, r)) a b p q

  pub had_map : (map new : List ℕ) → IsMapped (entry_in memory) n map → length new ≡ length map → IsPut (bit_of map) (bit_of new) chunk (chunk + 1) false → IsMapped (entry_in M') n new
  had_map map new m long p = mapped_cleared (entry_in memory) (entry_in M') n chunk map m (λ c lt ne. puts.others c ne) state_now new long p

  pub took_map : entry_in memory chunk ≡ 0 → (map : List ℕ) → IsMapped (entry_in memory) n map → IsMapped (entry_in M') n map
  took_map none map m = mapped_same (entry_in memory) (entry_in M') n chunk map m (λ c lt ne. puts.others c ne) state_now (λ three. omega (arith, none, three))

  module _ (own : ℕ) (T : Owners) (counts : Counts) (low ahead due : ℕ) (marks : Marks (entry_in memory) own n T counts) (passed : ArePassed (entry_in memory) n T low ahead due) where
    -- in a slot that the chunk had
    pub had_marks : entry_in memory chunk ≢ 0 → slot ≡ slot_by (entry_in memory chunk) → Marks (entry_in M') own n T counts
    had_marks some is = marks_old (entry_in memory) (entry_in M') own n chunk slot sets some (sym is) T counts marks

    pub had_passed : ArePassed (entry_in M') n T low ahead due
    had_passed = passed_old (entry_in memory) (entry_in M') n chunk slot T low ahead due sets state_now passed

    -- in one that was taken
    module _ (by : ℕ) (o o1 : OverSet) (t : TakesSlot T low by o (Some slot) o1) (none : entry_in memory chunk ≡ 0) (T' : Owners) (after : Counts) (q : MarksSlot T counts chunk slot T' after) where
      in_table : slot < own → slot < length T
      in_table lt = omega (arith, lt, marks.long)

      past_table : own ≤ slot → length T ≤ slot
      past_table past = omega (arith, past, marks.long)

      pub took_marks : Marks (entry_in M') own n T' after
      took_marks = marks_new (entry_in memory) (entry_in M') own n chunk slot sets none T T' counts after marks q (λ lt. (t.own (in_table lt)).0)

      pub took_passed : ArePassed (entry_in M') n T' (min own (slot + 1)) ahead due
      took_passed = passed_new (entry_in memory) (entry_in M') own n chunk slot sets none T T' counts after marks q low ahead due passed state_now (λ lt. (t.own (in_table lt)).0) (λ lt. t.least (in_table lt)) (λ past. t.full (past_table past))

-- what stands of the entries in memory at either exit, where the chunk had its slot
pub record StandsAgain (M' : List ℕ) (n own : ℕ) (T : Owners) (counts : Counts) (low ahead due : ℕ) : Type 0 where
  pub clean : IsClean M' n
  pub marks : Marks (entry_in M') own n T counts
  pub passed : ArePassed (entry_in M') n T low ahead due

pub stands_again : (memory M' : List ℕ) (chunk target slot n own : ℕ) (T : Owners) (counts : Counts) (low ahead due : ℕ) {R E : Type 0} (r : Result R E) → OnOk r (PutsEntry memory M' chunk (entry_for target slot)) → OnErr r (M' ≡ memory)
    → chunk < n → (target ≡ 2) ⊎ (target ≡ 1) → slot < 2 ^ 30 - 1 → entry_in memory chunk ≢ 0 → slot ≡ slot_by (entry_in memory chunk) → StandsAgain memory n own T counts low ahead due → StandsAgain M' n own T counts low ahead due
stands_again memory M' chunk target slot n own T counts low ahead due (Ok x) puts unset there targets small some is p = record {
  clean = clean_again memory M' chunk target slot n puts there targets small p.clean;
  marks = had_marks memory M' chunk target slot n puts there targets small own T counts low ahead due p.marks p.passed some is;
  passed = had_passed memory M' chunk target slot n puts there targets small own T counts low ahead due p.marks p.passed;
}
stands_again memory M' chunk target slot n own T counts low ahead due (Err e) puts unset there targets small some is p = subst (λ (l : List ℕ). StandsAgain l n own T counts low ahead due) (sym unset) p
