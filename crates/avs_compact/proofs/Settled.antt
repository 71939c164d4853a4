-- A chunk of a set is settled: the copy, and then the entry.
use Rattle.std.proofs.Common.{◌≡◌, ◌≢◌, ◌⊎◌, inl, inr, ℕ, ◌+◌, ◌-◌, ◌*◌, ◌/◌, ◌%◌, ◌<◌, ◌≤◌, Bool, cond, eqb, List, Option, Some, is_some, true, false, Result, Ok, Err, OnOk, OnErr, ◌∙◌, sym, refl, ap, subst, arith}
use Rattle.std.proofs.lemmas.Bool.{cases_lt, cases_eq}
use Rattle.std.proofs.lemmas.Result.{on_ok_weaker, on_err_weaker}
use Rattle.avs_seg.specs.Image.{Image, Block, block_at, ChangesWithin}
use Rattle.avs_seg.specs.Segment.{seg_len}
use Rattle.avs_seg.proofs.Blocks.{same_place}
use Rattle.avs_seg.proofs.Exits.{either, err_exit}
use Rattle.avs_dev.specs.Seen.{Seen, IsTold}
use Rattle.avs_dev.specs.Devices.{AllGoOn}
use Rattle.avs_dev.specs.Memory.{counted as counted_by}
use Rattle.avs_dev.proofs.Going.{all_then, all_err}
use Rattle.avs_flip.specs.Areas.{Areas, live, live_from}
use Rattle.avs_over.specs.Slots.{owner_at}
use Rattle.avs_over.specs.Over.{OverSet, slots}
use Rattle.avs_entries.specs.Entries.{IsEntry, state_by, slot_by, entry_in, entry_on}
use Rattle.avs_entries.specs.Slots.{IsClean}
use Rattle.avs_entries.specs.Putting.{WritesEntry, HasEntries, PutsEntry}
use Rattle.avs_entries.proofs.Counted.{cond_is, cond_not}
use Rattle.avs_compact.specs.CompactSet.{CompactSet, disk_of, entry_of, disk_entry, chunks_of, in_slot}
use Rattle.avs_compact.specs.Disks.{CompactDisk, Shadow, Over, four, disk_at, Adds}
use Rattle.avs_compact.specs.Work.{AddsUpTo, copy_work, settle_work, settle_most, settled_work, settled_most}
use Rattle.avs_compact.specs.Calls.{IsKnown}
use Rattle.avs_compact.specs.Places.{ArePlaced, OnlyTakes, KeepsOver, SetsEntry, AreSame}
use Rattle.avs_compact.specs.Keeping.{IsPlaced, OwnFirst, UsesOwnFirst, IsAlike, shadow_block, master_block, IsCleanOnDisk, KeepsBitmap, KeepsBlocks, KeepsSlots, KeepsSet, CountsSlots, Settles}
use Rattle.avs_compact.proofs.Going.{bitmap_goes}
use Rattle.avs_compact.proofs.Work.{settle_less, copy_settle, settled_adds, up_to_as}
use Rattle.avs_compact.proofs.Copied.{Copied}
use Rattle.avs_compact.proofs.Placed.{SetsOne, IsApart, placed_same, placed_one}
use Rattle.avs_compact.proofs.OwnFirst.{first_same}

-- ---- small facts

outside : (chunk n i : ℕ) → i / 64 ≢ chunk → (i < 64 * chunk) ⊎ (64 * chunk + seg_len chunk n ≤ i)
outside chunk n i ne = elim (cases_lt i (64 * chunk)) [
  | inl low ↦ inl low
  | inr high ↦ inr (omega (arith, high, ne))
]

pub place_is : (chunk i : ℕ) → i / 64 ≡ chunk → 64 * chunk + i % 64 ≡ i
place_is chunk i is = omega (arith, is)

pub place_in : (chunk n i : ℕ) → i / 64 ≡ chunk → i < n → i % 64 < seg_len chunk n
place_in chunk n i is lt = omega (arith, is, lt)

below : (i : ℕ) → i % 64 < 64
below i = omega arith

-- a choice by a number, made twice
pick_at : (n k : ℕ) (a b a' b' : Block) → (n ≡ k → a' ≡ a) → (n ≢ k → b' ≡ b) → cond (eqb n k) a' b' ≡ cond (eqb n k) a b
pick_at n k a b a' b' hit miss = elim (cases_eq n k) [
  | inl e ↦ cond_is n k a' b' e ∙ hit e ∙ sym (cond_is n k a b e)
  | inr ne ↦ cond_not n k a' b' ne ∙ miss ne ∙ sym (cond_not n k a b ne)
]

pub zero_state : (e : ℕ) → e ≡ 0 → state_by e ≡ 0
zero_state e is = omega (arith, is)

pub some_state : (e : ℕ) → IsEntry e → e ≢ 0 → state_by e ≢ 0
some_state e (inl zero) some z = some zero
some_state e (inr form) some z = omega (arith, form.0, z)

state_some : (e k : ℕ) → state_by e ≡ k → k ≢ 0 → e ≢ 0
state_some e k is some z = some (sym is ∙ zero_state e z)

zero_three : (e : ℕ) → e ≡ 0 → state_by e ≢ 3
zero_three e is three = omega (arith, is, three)

one_not : (n : ℕ) → n ≡ 1 → (n ≢ 0) × (n ≢ 3)
one_not n e = (λ f. omega (arith, e, f), λ f. omega (arith, e, f))

-- what is settled: a chunk with its slot and its target
pub record Settling (s : CompactSet) (chunk target slot : ℕ) : Type 0 where
  pub there : chunk < chunks_of s
  pub targets : (target ≡ 2) ⊎ (target ≡ 1)
  pub whole : state_by (entry_of s chunk) ≢ 2
  pub copies : target ≡ 1 → state_by (entry_of s chunk) ≡ 3
  pub had : entry_of s chunk ≢ 0 → slot ≡ slot_by (entry_of s chunk)
  pub form : (c : ℕ) → c < chunks_of s → IsEntry (entry_of s c)

pub target_some : (n : ℕ) → (n ≡ 2) ⊎ (n ≡ 1) → (n ≢ 0) × (n ≢ 3)
target_some n (inl e) = (λ f. omega (arith, e, f), λ f. omega (arith, e, f))
target_some n (inr e) = (λ f. omega (arith, e, f), λ f. omega (arith, e, f))

-- ---- block by block: the entries on the disk stay, or that of one chunk is set

module _ (s : CompactSet) (X : Option Seen) (a' : Areas) (M' N : List ℕ) (L A : ℕ) (o o' : OverSet) (m m' : Seen) (chunk target slot : ℕ) (may : Settling s chunk target slot)
    (known : (c : ℕ) → c < chunks_of s → entry_of s c ≡ disk_entry s c) (free : IsApart (entry_of s) (chunks_of s) chunk slot)
    {T E : Type 0} (r : Result T E) (cp : Copied s.own (state_by (entry_of s chunk)) m (disk_of s.shadow) o.disk slot (64 * chunk) (seg_len chunk s.blocks) r m' (disk_of X) o'.disk)
    (told : IsTold m) (told_s : IsTold (disk_of s.shadow)) (told_o : IsTold o.disk) (takes : OnlyTakes s.set o.owners o'.owners) (placed : IsPlaced s o)
    (mine : s.own ≤ slot → owner_at o'.owners (slot - s.own) ≡ Some s.set) where
  abbrev pub after : CompactSet
  after = record s { shadow = X; areas = a'; memory = M'; next = N; low = L; ahead = A }

  abbrev old_slot : ℕ → ℕ → Block
  old_slot k i = in_slot s.own (disk_of s.shadow).image o.disk.image k i

  abbrev new_slot : ℕ → ℕ → Block
  new_slot k i = in_slot s.own (disk_of X).image o'.disk.image k i

  -- the entry of the chunk in which a block lies
  entry_is : (c : ℕ) → c ≡ chunk → disk_entry s c ≡ entry_of s chunk
  entry_is c is = ap (λ (k : ℕ). disk_entry s k) is ∙ sym (known chunk may.there)

  form : (c : ℕ) → c < chunks_of s → IsEntry (disk_entry s c)
  form c lt = subst (λ (e : ℕ). IsEntry e) (known c lt) (may.form c lt)

  at_chunk : (i : ℕ) → i < s.blocks → i / 64 < chunks_of s
  at_chunk i lt = omega (arith, lt)

  m_out : (i : ℕ) → i / 64 ≢ chunk → block_at m'.image i ≡ block_at m.image i
  m_out i ne = (cp.within told).outside i (outside chunk s.blocks i ne)

  m_same : (i : ℕ) → i < s.blocks → state_by (disk_entry s (i / 64)) ≢ 3 → block_at m'.image i ≡ block_at m.image i
  m_same i lt ne = elim (cases_eq (i / 64) chunk) [
    | inl is ↦ ap (λ (img : Image). block_at img i) (cp.master_same (λ e. ne (ap state_by (entry_is (i / 64) is) ∙ e)))
    | inr other ↦ m_out i other
  ]

  slots_same : state_by (entry_of s chunk) ≢ 0 → (k i : ℕ) → new_slot k i ≡ old_slot k i
  slots_same ne k i = ap (λ (l : Image). in_slot s.own l o'.disk.image k i) (cp.slots_same ne).0 ∙ ap (λ (l : Image). in_slot s.own (disk_of s.shadow).image l k i) (cp.slots_same ne).1

  -- what stands in the slot of a chunk that has one
  s_same : (c i : ℕ) → c < chunks_of s → i < 64 → disk_entry s c ≢ 0 → new_slot (slot_by (disk_entry s c)) i ≡ old_slot (slot_by (disk_entry s c)) i
  s_same c i lt b some = elim (cases_eq (state_by (entry_of s chunk)) 0) [
    | inr ne ↦ slots_same ne (slot_by (disk_entry s c)) i
    | inl zero ↦
        let other : c ≢ chunk = λ is. some_state (disk_entry s c) (form c lt) some (ap state_by (entry_is c is) ∙ zero) in
        let apart : slot_by (disk_entry s c) ≢ slot = λ e. free.each c lt other (λ z. some (sym (known c lt) ∙ z)) (ap slot_by (known c lt) ∙ e) in
        (cp.others told_s told_o).each (slot_by (disk_entry s c)) i b apart
  ]

  module _ (same : AreSame (disk_entry s) (disk_entry after) (chunks_of s)) where
    at : (i : ℕ) → i < s.blocks → disk_entry after (i / 64) ≡ disk_entry s (i / 64)
    at i lt = same.each (i / 64) (at_chunk i lt)

    stand : (i : ℕ) → i < s.blocks → disk_entry s (i / 64) ≢ 0 → new_slot (slot_by (disk_entry s (i / 64))) (i % 64) ≡ old_slot (slot_by (disk_entry s (i / 64))) (i % 64)
    stand i lt some = s_same (i / 64) (i % 64) (at_chunk i lt) (below i) some

    pub same_entries : KeepsBlocks s o m.image after o' m'.image
    same_entries = record {
      shadow = λ i lt. ap (λ (e : ℕ). cond (eqb e 0) (block_at m'.image i) (new_slot (slot_by e) (i % 64))) (at i lt)
          ∙ pick_at (disk_entry s (i / 64)) 0 _ _ _ _ (λ e. m_same i lt (zero_three _ e)) (stand i lt);
      master = λ i lt. ap (λ (e : ℕ). cond (eqb (state_by e) 3) (new_slot (slot_by e) (i % 64)) (block_at m'.image i)) (at i lt)
          ∙ pick_at (state_by (disk_entry s (i / 64))) 3 _ _ _ _ (λ e. stand i lt (state_some _ 3 e (λ z. omega (arith, z)))) (m_same i lt);
      only = m_same;
      alike = λ a. record {
        same = λ i lt one.
            let e = ap state_by (sym (at i lt)) ∙ one in
            ap (λ (k : ℕ). new_slot (slot_by k) (i % 64)) (at i lt)
            ∙ stand i lt (state_some _ 1 e (λ z. omega (arith, z))) ∙ a.same i lt e ∙ sym (m_same i lt (one_not _ e).1);
      };
      back = λ c lt e. ap state_by (sym (same.each c lt)) ∙ e;
      splits = λ c lt e. ap state_by (same.each c lt) ∙ e;
      slots = λ c lt some. ((λ z. some (sym (same.each c lt) ∙ z)), ap slot_by (same.each c lt));
      placed = placed_same (entry_of s) (disk_entry after) s.own (chunks_of s) s.set o.owners o'.owners (λ c lt. same.each c lt ∙ sym (known c lt)) takes placed;
    }

  module _ (one : SetsOne (disk_entry s) (disk_entry after) (chunks_of s) chunk slot) (now : state_by (disk_entry after chunk) ≡ target) (x : T) (ok : r ≡ Ok x) where
    here : (c : ℕ) → c ≡ chunk → disk_entry after c ≡ disk_entry after chunk
    here c is = ap (λ (k : ℕ). disk_entry after k) is

    elsewhere : (i : ℕ) → i < s.blocks → i / 64 ≢ chunk → disk_entry after (i / 64) ≡ disk_entry s (i / 64)
    elsewhere i lt ne = one.others (i / 64) (at_chunk i lt) ne

    copied_in : (i : ℕ) → i < s.blocks → i / 64 ≡ chunk → entry_of s chunk ≡ 0 → new_slot slot (i % 64) ≡ block_at m.image i
    copied_in i lt is e =
        (subst (λ (q : Result T E). OnOk q ((j : ℕ) → j < seg_len chunk s.blocks → new_slot slot j ≡ block_at m.image (64 * chunk + j))) ok (cp.to_slot told told_s told_o (zero_state _ e))) (i % 64) (place_in chunk s.blocks i is lt)
        ∙ same_place m.image _ i (place_is chunk i is)

    copied_out : (i : ℕ) → i < s.blocks → i / 64 ≡ chunk → state_by (entry_of s chunk) ≡ 3 → block_at m'.image i ≡ old_slot slot (i % 64)
    copied_out i lt is e =
        sym (same_place m'.image _ i (place_is chunk i is))
        ∙ (subst (λ (q : Result T E). OnOk q ((j : ℕ) → j < seg_len chunk s.blocks → block_at m'.image (64 * chunk + j) ≡ old_slot slot j)) ok (cp.to_master told told_s told_o e)) (i % 64) (place_in chunk s.blocks i is lt)

    -- the chunk's slot before
    had_slot : (i : ℕ) → entry_of s chunk ≢ 0 → new_slot slot i ≡ old_slot (slot_by (entry_of s chunk)) i
    had_slot i some = slots_same (some_state _ (may.form chunk may.there) some) slot i ∙ ap (λ (k : ℕ). old_slot k i) (may.had some)

    pub one_entry : KeepsBlocks s o m.image after o' m'.image
    one_entry = record { shadow = shadow; master = master; only = m_same; alike = alike; back = back; splits = splits; slots = kept; placed = on_disk }
      where
        shadow : (i : ℕ) → i < s.blocks → shadow_block after o' m'.image i ≡ shadow_block s o m.image i
        shadow i lt = elim (cases_eq (i / 64) chunk) [
          | inl is ↦
              ap (λ (e : ℕ). cond (eqb e 0) (block_at m'.image i) (new_slot (slot_by e) (i % 64))) (here (i / 64) is)
              ∙ cond_not (disk_entry after chunk) 0 _ _ one.some
              ∙ ap (λ (k : ℕ). new_slot k (i % 64)) one.slot_is
              ∙ elim (cases_eq (entry_of s chunk) 0) [
                | inl e ↦ copied_in i lt is e ∙ sym (cond_is (disk_entry s (i / 64)) 0 _ _ (entry_is (i / 64) is ∙ e))
                | inr some ↦ had_slot (i % 64) some ∙ ap (λ (e : ℕ). old_slot (slot_by e) (i % 64)) (sym (entry_is (i / 64) is)) ∙ sym (cond_not (disk_entry s (i / 64)) 0 _ _ (λ z. some (sym (entry_is (i / 64) is) ∙ z)))
              ]
          | inr other ↦ ap (λ (e : ℕ). cond (eqb e 0) (block_at m'.image i) (new_slot (slot_by e) (i % 64))) (elsewhere i lt other)
              ∙ pick_at (disk_entry s (i / 64)) 0 _ _ _ _ (λ e. m_out i other) (s_same (i / 64) (i % 64) (at_chunk i lt) (below i))
        ]

        master : (i : ℕ) → i < s.blocks → master_block after o' m'.image i ≡ master_block s o m.image i
        master i lt = elim (cases_eq (i / 64) chunk) [
          | inl is ↦
              ap (λ (e : ℕ). cond (eqb (state_by e) 3) (new_slot (slot_by e) (i % 64)) (block_at m'.image i)) (here (i / 64) is)
              ∙ cond_not (state_by (disk_entry after chunk)) 3 _ _ (λ z. (target_some target may.targets).1 (sym now ∙ z))
              ∙ elim (cases_eq (state_by (entry_of s chunk)) 3) [
                | inl e ↦
                    let some = state_some (entry_of s chunk) 3 e (λ z. omega (arith, z)) in
                    copied_out i lt is e ∙ ap (λ (k : ℕ). old_slot k (i % 64)) (may.had some)
                    ∙ ap (λ (k : ℕ). old_slot (slot_by k) (i % 64)) (sym (entry_is (i / 64) is))
                    ∙ sym (cond_is (state_by (disk_entry s (i / 64))) 3 _ _ (ap state_by (entry_is (i / 64) is) ∙ e))
                | inr ne ↦
                    let no : state_by (disk_entry s (i / 64)) ≢ 3 = λ z. ne (ap state_by (sym (entry_is (i / 64) is)) ∙ z) in
                    m_same i lt no ∙ sym (cond_not (state_by (disk_entry s (i / 64))) 3 _ _ no)
              ]
          | inr other ↦ ap (λ (e : ℕ). cond (eqb (state_by e) 3) (new_slot (slot_by e) (i % 64)) (block_at m'.image i)) (elsewhere i lt other)
              ∙ pick_at (state_by (disk_entry s (i / 64))) 3 _ _ _ _ (λ e. s_same (i / 64) (i % 64) (at_chunk i lt) (below i) (state_some _ 3 e (λ z. omega (arith, z)))) (λ e. m_out i other)
        ]

        alike : IsAlike s o m.image → IsAlike after o' m'.image
        alike a = record {
          same = λ i lt is_one. elim (cases_eq (i / 64) chunk) [
            | inl is ↦
                let t : target ≡ 1 = sym now ∙ ap state_by (sym (here (i / 64) is)) ∙ is_one in
                let three = may.copies t in
                let some = state_some (entry_of s chunk) 3 three (λ z. omega (arith, z)) in
                ap (λ (e : ℕ). new_slot (slot_by e) (i % 64)) (here (i / 64) is)
                ∙ ap (λ (k : ℕ). new_slot k (i % 64)) one.slot_is
                ∙ slots_same (some_state _ (may.form chunk may.there) some) slot (i % 64)
                ∙ sym (copied_out i lt is three)
            | inr other ↦
                let e = ap state_by (sym (elsewhere i lt other)) ∙ is_one in
                ap (λ (k : ℕ). new_slot (slot_by k) (i % 64)) (elsewhere i lt other)
                ∙ s_same (i / 64) (i % 64) (at_chunk i lt) (below i) (state_some _ 1 e (λ z. omega (arith, z))) ∙ a.same i lt e ∙ sym (m_out i other)
          ];
        }

        back : (c : ℕ) → c < chunks_of s → state_by (disk_entry after c) ≡ 3 → state_by (disk_entry s c) ≡ 3
        back c lt e = elim (cases_eq c chunk) [
          | inl is ↦ absurd ((target_some target may.targets).1 (sym now ∙ ap state_by (sym (here c is)) ∙ e))
          | inr ne ↦ ap state_by (sym (one.others c lt ne)) ∙ e
        ]

        splits : (c : ℕ) → c < chunks_of s → state_by (disk_entry s c) ≡ 2 → state_by (disk_entry after c) ≡ 2
        splits c lt e = elim (cases_eq c chunk) [
          | inl is ↦ absurd (may.whole (ap state_by (sym (entry_is c is)) ∙ e))
          | inr ne ↦ ap state_by (one.others c lt ne) ∙ e
        ]

        kept : (c : ℕ) → c < chunks_of s → disk_entry s c ≢ 0 → (disk_entry after c ≢ 0) × (slot_by (disk_entry after c) ≡ slot_by (disk_entry s c))
        kept c lt some = elim (cases_eq c chunk) [
          | inl is ↦ ((λ z. one.some (sym (here c is) ∙ z)), ap slot_by (here c is) ∙ one.slot_is ∙ may.had (λ z. some (entry_is c is ∙ z)) ∙ ap slot_by (sym (entry_is c is)))
          | inr ne ↦ ((λ z. some (sym (one.others c lt ne) ∙ z)), ap slot_by (one.others c lt ne))
        ]

        on_disk : ArePlaced (disk_entry after) s.own (chunks_of s) s.set o'.owners
        on_disk = placed_one (entry_of s) (disk_entry after) s.own (chunks_of s) s.set chunk slot o.owners o'.owners
            (record { there = one.there; some = one.some; form = one.form; slot_is = one.slot_is; others = λ c lt ne. one.others c lt ne ∙ sym (known c lt) }) takes placed free mine

-- ---- the block with the entry

pub record IsNewEntry (entry target slot : ℕ) : Type 0 where
  pub state : state_by entry ≡ target
  pub slot_is : slot_by entry ≡ slot
  pub some : entry ≢ 0
  pub form : IsEntry entry

module _ (s : CompactSet) (a' : Areas) (chunk target slot entry : ℕ) (is : IsNewEntry entry target slot) (there : chunk < chunks_of s) (clean : IsClean s.memory (chunks_of s)) (first : s.areas.first ≡ 1) where
  -- the entries of an area in which the block was written
  disk_one : ((c : ℕ) → c < chunks_of s → entry_of s c ≡ disk_entry s c) → HasEntries s.memory (live s.areas) (live a') chunk entry → SetsOne (disk_entry s) (λ c. entry_on (live a') c) (chunks_of s) chunk slot
  disk_one known h = record {
    there = there;
    some = λ z. is.some (sym h.now ∙ z);
    form = subst (λ (e : ℕ). IsEntry e) (sym h.now) is.form;
    slot_is = ap slot_by h.now ∙ is.slot_is;
    others = λ c lt ne. elim (cases_eq (c / 128) (chunk / 128)) [
      | inl near ↦ h.near c ne near ∙ known c lt
      | inr far ↦ h.far c far
    ];
  }

  still_clean : HasEntries s.memory (live s.areas) (live a') chunk entry → IsCleanOnDisk s → (c : ℕ) → chunks_of s ≤ c → entry_on (live a') c ≡ 0
  still_clean h zeros c past = elim (cases_eq (c / 128) (chunk / 128)) [
    | inl near ↦ h.near c (λ e. omega (arith, e, past, there)) near ∙ clean.each c past
    | inr far ↦ h.far c far ∙ zeros.each c past
  ]

  area_outside : IsTold s.areas.disk → ChangesWithin (live_from s.areas + chunk / 128) 1 s.areas.disk.image a'.disk.image → block_at a'.disk.image 0 ≡ block_at s.areas.disk.image 0
  area_outside told within = within.outside 0 (inl (low s.areas.live_b refl))
    where
      low : (b : Bool) → s.areas.live_b ≡ b → 0 < live_from s.areas + chunk / 128
      low true e = subst (λ (t : Bool). 0 < cond t (s.areas.first + s.areas.len) s.areas.first + chunk / 128) (sym e) (omega (arith, first))
      low false e = subst (λ (t : Bool). 0 < cond t (s.areas.first + s.areas.len) s.areas.first + chunk / 128) (sym e) (omega (arith, first))

  keeps_bitmap : {V H : Type 0} (X : Option Seen) (M' : List ℕ) (q : Result V H) → WritesEntry s.areas s.memory chunk entry q a' M' → IsTold s.areas.disk → KeepsBitmap s (record s { shadow = X; areas = a'; memory = M' })
  keeps_bitmap X M' q p told = record {
    label = area_outside told (p.within told);
    staged = p.staged told;
    clean = λ zeros. record {
      each = λ c past. elim (either q (p.at_exit told).done (p.at_exit told).failed) [
        | inl same ↦ ap (λ (img : Image). entry_on img c) same ∙ zeros.each c past
        | inr has ↦ still_clean has zeros c past
      ];
    };
  }

-- ---- the exits

module _ (s : CompactSet) (X : Option Seen) (still : is_some X ≡ is_some s.shadow) (o o' : OverSet) (m m' : Seen) (chunk target slot entry : ℕ) (may : Settling s chunk target slot)
    (free : IsPlaced s o → IsApart (entry_of s) (chunks_of s) chunk slot) (takes : OnlyTakes s.set o.owners o'.owners) (mine : IsPlaced s o → s.own ≤ slot → owner_at o'.owners (slot - s.own) ≡ Some s.set)
    {T E : Type 0} (r : Result T E) (cp : Copied s.own (state_by (entry_of s chunk)) m (disk_of s.shadow) o.disk slot (64 * chunk) (seg_len chunk s.blocks) r m' (disk_of X) o'.disk) where
  pub same_slots : (a' : Areas) (M' : List ℕ) (L : ℕ) → M' ≡ s.memory → KeepsSlots s o (record s { shadow = X; areas = a'; memory = M'; low = L }) o'
  same_slots a' M' L is = record {
    there = λ p. record {
      each = λ c lt some past.
          let e : entry_in M' c ≡ entry_of s c = ap (λ (l : List ℕ). entry_in l c) is in
          let k = ap slot_by e in
          let low = p.each c lt (λ z. some (e ∙ z)) (omega (arith, past, k)) in
          omega (arith, low, k, takes.long);
    };
    placed = λ p. placed_same (entry_of s) (λ c. entry_in M' c) s.own (chunks_of s) s.set o.owners o'.owners (λ c lt. ap (λ (l : List ℕ). entry_in l c) is) takes p;
    own_first = λ u. subst (λ (l : List ℕ). UsesOwnFirst (record s { shadow = X; areas = a'; memory = l; low = L })) (sym is) u;
    owners = takes;
  }

  pub keeps_over : IsPlaced s o → IsTold o.disk → KeepsOver s.set o o'
  keeps_over placed told = record {
    label = (cp.only told).label;
    slots = λ k i lt ne. (cp.only told).others k i lt (λ e.
        let past : s.own ≤ slot = omega (arith, e) in
        let here : slot - s.own ≡ k = omega (arith, e) in
        ne (ap (λ (j : ℕ). owner_at o'.owners j) (sym here) ∙ mine placed past));
  }

  -- the blocks that were written of the chunk
  abbrev len : ℕ
  len = seg_len chunk s.blocks

  abbrev state : ℕ
  state = state_by (entry_of s chunk)

  stopped_work : {e : E} → r ≡ Err e → (d : CompactDisk) → (disk_at (record s { shadow = X }) o' m' d).written ≤ (disk_at s o m d).written + settle_most state len d
  stopped_work {e} is d =
      let most = (subst (λ (q : Result T E). Adds (four m (disk_of s.shadow) s.areas.disk o.disk) (copy_work s.own state slot len) q (four m' (disk_of X) s.areas.disk o'.disk)) is (cp.work s.areas.disk)).most in
      omega (arith, most d, copy_settle s.own state slot len d, settle_less s.own state slot len d)

  pub fails_copy : {U G : Type 0} (e : E) (e' : G) → r ≡ Err e → Settles {T = U} s o m chunk target (Err e') (record s { shadow = X }) o' m'
  fails_copy {U} {G} e e' is =
      let go = subst (λ (q : Result T E). AllGoOn (four m (disk_of s.shadow) s.areas.disk o.disk) q (four m' (disk_of X) s.areas.disk o'.disk)) is (cp.goes s.areas.disk) in
      record {
        keeps = record {
          shape = record { set = refl; own = refl; blocks = refl; there = still; areas = (refl, refl); live_b = refl; next = refl; ahead = refl };
          goes = all_err (disk_at s o m) (disk_at (record s { shadow = X }) o' m') e e' go;
          bitmap = λ told. record { label = refl; staged = refl; clean = λ zeros. record { each = zeros.each } };
          slots = same_slots s.areas s.memory s.low refl;
          over = keeps_over;
          blocks = λ kn placed td. same_entries s X s.areas s.memory s.next s.low s.ahead o o' m m' chunk target slot may kn.step.each (free placed) r cp td kn.shadow kn.over takes placed (mine placed) (record { each = λ c _. refl });
          own_first = λ kn first. first_same (entry_of s) (disk_entry s) s.own (chunks_of s) s.ahead (λ c lt. sym (kn.step.each c lt)) first;
        };
        done = λ kn. tt;
        stopped = λ kn. inl (record { each = λ c _. refl });
        known = λ kn. tt;
        memory = tt;
        unset = refl;
        counts = tt;
        work = record { done = tt; stopped = stopped_work is };
      }

  module _ (is_new : IsNewEntry entry target slot) (clean : IsClean s.memory (chunks_of s)) (first : s.areas.first ≡ 1) (room : s.own ≤ slot → slot - s.own < slots o')
      (a' : Areas) (M' : List ℕ) (L : ℕ) (x : T) (copied : r ≡ Ok x) {V H : Type 0} (q : Result V H) (p : WritesEntry s.areas s.memory chunk entry q a' M')
      (counted : SetsOne (entry_of s) (λ c. entry_in M' c) (chunks_of s) chunk slot
      → CountsSlots s o (cond (eqb (entry_of s chunk) 0) 1 0) (record s { shadow = X; areas = a'; memory = M'; low = L }) o')
      (first_by : (F : ℕ → ℕ) → SetsOne (entry_of s) F (chunks_of s) chunk slot → UsesOwnFirst s → OwnFirst F s.own (chunks_of s) s.ahead) where
    abbrev pub settled : CompactSet
    settled = record s { shadow = X; areas = a'; memory = M'; low = L }

    goes : AllGoOn (disk_at s o m) q (disk_at settled o' m')
    goes = all_then (disk_at s o m) (four m' (disk_of X) s.areas.disk o'.disk) (disk_at settled o' m') x q
        (subst (λ (z : Result T E). AllGoOn (disk_at s o m) z (four m' (disk_of X) s.areas.disk o'.disk)) copied (cp.goes s.areas.disk)) (bitmap_goes m' (disk_of X) s.areas.disk a'.disk o'.disk q p.writes.goes)

    -- the entries in memory
    memory_one : PutsEntry s.memory M' chunk entry → SetsOne (entry_of s) (λ c. entry_in M' c) (chunks_of s) chunk slot
    memory_one set = record {
      there = may.there;
      some = λ z. is_new.some (sym set.now ∙ z);
      form = subst (λ (e : ℕ). IsEntry e) (sym set.now) is_new.form;
      slot_is = ap slot_by set.now ∙ is_new.slot_is;
      others = λ c lt ne. set.others c ne;
    }

    slots_one : PutsEntry s.memory M' chunk entry → KeepsSlots s o settled o'
    slots_one set = record {
      there = λ t. record {
        each = λ c lt some past. elim (cases_eq c chunk) [
          | inl e ↦
              let k : slot_by (entry_in M' c) ≡ slot = ap (λ (j : ℕ). slot_by (entry_in M' j)) e ∙ (memory_one set).slot_is in
              let fits = room (omega (arith, past, k)) in
              omega (arith, fits, k)
          | inr ne ↦
              let k : entry_in M' c ≡ entry_of s c = set.others c ne in
              let low = t.each c lt (λ z. some (k ∙ z)) (omega (arith, past, ap slot_by k)) in
              omega (arith, low, ap slot_by k, takes.long)
        ];
      };
      placed = λ placed. placed_one (entry_of s) (λ c. entry_in M' c) s.own (chunks_of s) s.set chunk slot o.owners o'.owners (memory_one set) takes placed (free placed) (mine placed);
      own_first = first_by (λ c. entry_in M' c) (memory_one set);
      owners = takes;
    }

    slots_now : (z : Result V H) → OnOk z (PutsEntry s.memory M' chunk entry) → OnErr z (M' ≡ s.memory) → KeepsSlots s o settled o'
    slots_now (Ok y) set unset = slots_one set
    slots_now (Err e) set unset = same_slots a' M' L unset

    sets_disk : IsKnown s o → HasEntries s.memory (live s.areas) (live a') chunk entry → SetsEntry (disk_entry s) (λ c. entry_on (live a') c) (chunks_of s) chunk target
    sets_disk kn has = let one = disk_one s a' chunk target slot entry is_new may.there clean first kn.step.each has in record {
      now = ap state_by has.now ∙ is_new.state;
      slot = λ some. one.slot_is ∙ may.had (λ z. some (sym (kn.step.each chunk may.there) ∙ z)) ∙ ap slot_by (kn.step.each chunk may.there);
      others = one.others;
    }

    -- the entries on the disk, beside those in memory before
    on_disk : IsKnown s o → HasEntries s.memory (live s.areas) (live a') chunk entry → SetsOne (entry_of s) (λ c. entry_on (live a') c) (chunks_of s) chunk slot
    on_disk kn has = let one = disk_one s a' chunk target slot entry is_new may.there clean first kn.step.each has in
        record { there = one.there; some = one.some; form = one.form; slot_is = one.slot_is; others = λ c lt ne. one.others c lt ne ∙ sym (kn.step.each c lt) }

    keeps : KeepsSet s o m q settled o' m'
    keeps = record {
      shape = record { set = refl; own = refl; blocks = refl; there = still; areas = (ap (λ (a : Areas). a.first) p.place, ap (λ (a : Areas). a.len) p.place); live_b = ap (λ (a : Areas). a.live_b) p.place; next = refl; ahead = refl };
      goes = goes;
      bitmap = λ told. let kept = keeps_bitmap s a' chunk target slot entry is_new may.there clean first X M' q p told in record { label = kept.label; staged = kept.staged; clean = λ zeros. record { each = (kept.clean zeros).each } };
      slots = slots_now q p.set p.unset;
      over = keeps_over;
      blocks = λ kn placed td. elim (either q (p.at_exit kn.bitmap).done (p.at_exit kn.bitmap).failed) [
        | inl same ↦ same_entries s X a' M' s.next L s.ahead o o' m m' chunk target slot may kn.step.each (free placed) r cp td kn.shadow kn.over takes placed (mine placed) (record { each = λ c _. ap (λ (img : Image). entry_on img c) same })
        | inr has ↦ one_entry s X a' M' s.next L s.ahead o o' m m' chunk target slot may kn.step.each (free placed) r cp td kn.shadow kn.over takes placed (mine placed)
            (disk_one s a' chunk target slot entry is_new may.there clean first kn.step.each has) (ap state_by has.now ∙ is_new.state) x copied
      ];
      own_first = λ kn before. elim (either q (p.at_exit kn.bitmap).done (p.at_exit kn.bitmap).failed) [
        | inl same ↦ first_same (entry_of s) (λ c. entry_on (live a') c) s.own (chunks_of s) s.ahead (λ c lt. ap (λ (img : Image). entry_on img c) same ∙ sym (kn.step.each c lt)) before
        | inr has ↦ first_by (λ c. entry_on (live a') c) (on_disk kn has) before
      ];
    }

    step : IsKnown s o → HasEntries s.memory (live s.areas) (live a') chunk entry → PutsEntry s.memory M' chunk entry → (c : ℕ) → c < chunks_of s → entry_in M' c ≡ entry_on (live a') c
    step kn has set c lt = elim (cases_eq c chunk) [
      | inl is ↦ ap (λ (k : ℕ). entry_in M' k) is ∙ set.now ∙ sym has.now ∙ ap (λ (k : ℕ). entry_on (live a') k) (sym is)
      | inr ne ↦ set.others c ne ∙ kn.step.each c lt ∙ sym ((sets_disk kn has).others c lt ne)
    ]

    work_now : (z : Result V H) → OnOk z (PutsEntry s.memory M' chunk entry) → OnOk z (a'.disk.written ≡ counted_by s.areas.disk.written 1) → OnErr z (a'.disk.written ≡ s.areas.disk.written)
        → AddsUpTo (disk_at s o m) (settled_work s settled chunk) (settled_most s chunk) z (disk_at settled o' m')
    work_now z set one none =
        let done = (subst (λ (k : Result T E). Adds (four m (disk_of s.shadow) s.areas.disk o.disk) (copy_work s.own state slot len) k (four m' (disk_of X) s.areas.disk o'.disk)) copied (cp.work s.areas.disk)).done in
        up_to_as (disk_at s o m) (disk_at settled o' m') (settle_work s.own state slot len) (settled_work s settled chunk) (settle_most state len) (settled_most s chunk) z
        (on_ok_weaker z (λ set d. ap (λ (k : ℕ). settle_work s.own state k len d) (sym (memory_one set).slot_is)) set)
        (err_exit z (λ d. omega arith))
        (settled_adds s.own state slot len m m' (disk_of s.shadow) (disk_of X) s.areas.disk a'.disk o.disk o'.disk z done one none)

    pub settles : Settles s o m chunk target q settled o' m'
    settles = record {
      keeps = keeps;
      done = λ kn. on_ok_weaker q (sets_disk kn) (p.at_exit kn.bitmap).done;
      stopped = λ kn. on_err_weaker q (λ f. elim f [ inl same ↦ inl (record { each = λ c _. ap (λ (img : Image). entry_on img c) same }) | inr has ↦ inr (sets_disk kn has) ]) (p.at_exit kn.bitmap).failed;
      known = λ kn. known q (p.at_exit kn.bitmap).done p.set kn;
      memory = on_ok_weaker q (λ set. record { now = ap state_by set.now ∙ is_new.state; slot = λ some. (memory_one set).slot_is ∙ may.had some; others = λ c lt ne. set.others c ne }) p.set;
      unset = p.unset;
      counts = on_ok_weaker q (λ set. counted (memory_one set)) p.set;
      work = work_now q p.set p.writes.counted p.writes.uncounted;
    }
      where
        known : (z : Result V H) → OnOk z (HasEntries s.memory (live s.areas) (live a') chunk entry) → OnOk z (PutsEntry s.memory M' chunk entry) → IsKnown s o → OnOk z (IsKnown settled o')
        known (Ok y) has set kn = record {
          shadow = ((cp.goes s.areas.disk).lasts Shadow).told kn.shadow;
          bitmap = p.writes.goes.lasts.told kn.bitmap;
          over = ((cp.goes s.areas.disk).lasts Over).told kn.over;
          step = record { each = step kn has set };
        }
        known (Err e) has set kn = tt
