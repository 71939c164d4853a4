-- Blocks that are written in a slot, and a chunk that is copied into one or out of one.
use Rattle.std.proofs.Common.{◌≡◌, ◌≢◌, ◌⊎◌, inl, inr, ℕ, ◌+◌, ◌-◌, ◌*◌, ◌/◌, ◌<◌, ◌≤◌, Bool, cond, eqb, List, length, Result, Ok, Err, IsOk, OnOk, OnErr, refl, sym, ◌∙◌, ap, subst, arith}
use Rattle.std.proofs.lemmas.Bool.{cases_lt, cases_eq, false≢true, lt-ltb, le-ltb}
use Rattle.std.proofs.lemmas.Result.{on_ok_weaker, on_err_weaker}
use Rattle.avs_seg.specs.Image.{Image, Block, block_at, blocks_of, put, IsMix, ChangesWithin}
use Rattle.avs_seg.proofs.Blocks.{same_place}
use Rattle.avs_seg.proofs.Bytes.{length-blocks_of}
use Rattle.avs_seg.proofs.Changes.{ChangesWithin-same}
use Rattle.avs_seg.proofs.Puts.{put_inside}
use Rattle.avs_seg.proofs.Ranges.{block_at-range}
use Rattle.avs_dev.specs.Seen.{Seen, IsTold, Lasts, Reads, Writes}
use Rattle.avs_dev.specs.Devices.{AllGoOn}
use Rattle.avs_dev.proofs.Going.{lasts_same, goes_err, all_then, all_err, all_same}
use Rattle.avs_over.specs.Over.{OverSet, slot_from}
use Rattle.avs_entries.specs.Entries.{state_by, slot_by}
use Rattle.avs_entries.proofs.Counted.{cond_is, cond_not}
use Rattle.avs_compact.specs.CompactSet.{in_slot}
use Rattle.avs_compact.specs.Disks.{CompactDisk, four, Adds}
use Rattle.avs_compact.specs.Work.{slot_work, out_work, copy_work}
use Rattle.avs_compact.specs.Calls.{ReadsOne}
use Rattle.avs_compact.specs.Steps.{OnlySlot, OtherSlots, WritesOne, CopiesIn, CopiesOut, CopiesBack}
use Rattle.avs_compact.proofs.Going.{master_goes, shadow_goes, over_goes}
use Rattle.avs_compact.proofs.Work.{each_disk, own_work, over_work, adds_four, adds_same, adds_as, same_written, same_most, now_written, now_most}

-- ---- where a block of a slot stands

pub in_own : (own : ℕ) (s o : Image) (slot k : ℕ) → slot < own → in_slot own s o slot k ≡ block_at s (64 * slot + k)
in_own own s o slot k lt = ap (λ (b : Bool). cond b (block_at s (64 * slot + k)) (block_at o (slot_from (slot - own) + k))) (lt-ltb slot own lt)

pub in_over : (own : ℕ) (s o : Image) (slot k : ℕ) → own ≤ slot → in_slot own s o slot k ≡ block_at o (slot_from (slot - own) + k)
in_over own s o slot k past = ap (λ (b : Bool). cond b (block_at s (64 * slot + k)) (block_at o (slot_from (slot - own) + k))) (le-ltb slot own past)

-- ---- blocks of a slot that are written

module _ (s s' : Seen) (o o' : OverSet) (own slot at : ℕ) (bytes : List ℕ) {T E : Type 0} (r : Result T E) (w : WritesOne s o own slot at bytes r s' o') (fits : at + length bytes / 512 ≤ 64) where
  own_within : slot < own → IsTold s → ChangesWithin (64 * slot + at) (length bytes / 512) s.image s'.image
  own_within lt told = (w.to_own lt).within told

  over_within : own ≤ slot → IsTold o.disk → ChangesWithin (slot_from (slot - own) + at) (length bytes / 512) o.disk.image o'.disk.image
  over_within past told = (w.to_over past).writes.within told

  -- a block of another slot lies outside
  apart_own : (k i : ℕ) → i < 64 → k ≢ slot → (64 * k + i < 64 * slot + at) ⊎ (64 * slot + at + length bytes / 512 ≤ 64 * k + i)
  apart_own k i lt ne = elim (cases_lt k slot) [
    | inl low ↦ inl (omega (arith, low, lt))
    | inr high ↦ inr (omega (arith, high, ne, lt, fits))
  ]

  apart_over : (k i : ℕ) → i < 64 → k ≢ slot - own → (slot_from k + i < slot_from (slot - own) + at) ⊎ (slot_from (slot - own) + at + length bytes / 512 ≤ slot_from k + i)
  apart_over k i lt ne = elim (cases_lt k (slot - own)) [
    | inl low ↦ inl (omega (arith, low, lt))
    | inr high ↦ inr (omega (arith, high, ne, lt, fits))
  ]

  pub only_slot : IsTold o.disk → OnlySlot own slot o.disk.image o'.disk.image
  only_slot told = elim (cases_lt slot own) [
    | inl lt ↦ subst (λ (z : OverSet). OnlySlot own slot o.disk.image z.disk.image) (sym (w.over_rest lt)) (record { label = refl; others = λ k i b ne. refl })
    | inr past ↦ record {
      label = (over_within past told).outside 0 (inl (omega arith));
      others = λ k i b ne. (over_within past told).outside (slot_from k + i) (apart_over k i b (λ e. ne (omega (arith, e, past))));
    }
  ]

  pub other_slots : IsTold s → IsTold o.disk → OtherSlots own slot s.image o.disk.image s'.image o'.disk.image
  other_slots told_s told_o = record {
    each = λ k i b ne. elim (cases_lt k own) [
      | inl low ↦ in_own own s'.image o'.disk.image k i low ∙ own_block k i b ne ∙ sym (in_own own s.image o.disk.image k i low)
      | inr past ↦ in_over own s'.image o'.disk.image k i past ∙ over_block k i b ne past ∙ sym (in_over own s.image o.disk.image k i past)
    ];
  }
    where
      own_block : (k i : ℕ) → i < 64 → k ≢ slot → block_at s'.image (64 * k + i) ≡ block_at s.image (64 * k + i)
      own_block k i b ne = elim (cases_lt slot own) [
        | inl lt ↦ (own_within lt told_s).outside (64 * k + i) (apart_own k i b ne)
        | inr past ↦ ap (λ (d : Seen). block_at d.image (64 * k + i)) (w.shadow_rest past)
      ]

      over_block : (k i : ℕ) → i < 64 → k ≢ slot → own ≤ k → block_at o'.disk.image (slot_from (k - own) + i) ≡ block_at o.disk.image (slot_from (k - own) + i)
      over_block k i b ne high = elim (cases_lt slot own) [
        | inl lt ↦ ap (λ (z : OverSet). block_at z.disk.image (slot_from (k - own) + i)) (w.over_rest lt)
        | inr past ↦ (over_within past told_o).outside (slot_from (k - own) + i) (apart_over (k - own) i b (λ e. ne (omega (arith, e, past, high))))
      ]

  pub over_kept : o' ≡ record o { disk = o'.disk }
  over_kept = elim (cases_lt slot own) [
    | inl lt ↦ w.over_rest lt ∙ ap (λ (d : Seen). record o { disk = d }) (sym (ap (λ (z : OverSet). z.disk) (w.over_rest lt)))
    | inr past ↦ (w.to_over past).rest
  ]

  -- so many blocks are written in it
  pub slot_adds : 0 < length bytes / 512 → (m m' b : Seen) → m'.written ≡ m.written → Adds (four m s b o.disk) (slot_work own slot (length bytes / 512)) r (four m' s' b o'.disk)
  slot_adds some m m' b read = elim (cases_lt slot own) [
    | inl lt ↦
        let k = own_work own slot (length bytes / 512) lt in
        let over : o'.disk.written ≡ o.disk.written = ap (λ (z : OverSet). z.disk.written) (w.over_rest lt) in
        adds_four m s b o.disk m' s' b o'.disk (slot_work own slot (length bytes / 512)) r
        (same_written m m' 0 r read refl) (now_written s s' _ (length bytes / 512) r some k.0 (w.to_own lt).counted) (same_written b b 0 r refl refl) (same_written o.disk o'.disk _ r over k.1)
        (same_most m m' 0 r read) (now_most s s' _ r (w.to_own lt).uncounted) (same_most b b 0 r refl) (same_most o.disk o'.disk _ r over)
    | inr past ↦
        let k = over_work own slot (length bytes / 512) past in
        let own_same : s'.written ≡ s.written = ap (λ (d : Seen). d.written) (w.shadow_rest past) in
        adds_four m s b o.disk m' s' b o'.disk (slot_work own slot (length bytes / 512)) r
        (same_written m m' 0 r read refl) (same_written s s' _ r own_same k.0) (same_written b b 0 r refl refl) (now_written o.disk o'.disk _ (length bytes / 512) r some k.1 (w.to_over past).writes.counted)
        (same_most m m' 0 r read) (same_most s s' _ r own_same) (same_most b b 0 r refl) (now_most o.disk o'.disk _ r (w.to_over past).writes.uncounted)
  ]

  pub slot_goes : (m b : Seen) → AllGoOn (four m s b o.disk) r (four m s' b o'.disk)
  slot_goes m b = elim (cases_lt slot own) [
    | inl lt ↦ subst (λ (z : OverSet). AllGoOn (four m s b o.disk) r (four m s' b z.disk)) (sym (w.over_rest lt)) (shadow_goes m s s' b o.disk r (w.to_own lt).goes)
    | inr past ↦ subst (λ (d : Seen). AllGoOn (four m s b o.disk) r (four m d b o'.disk)) (sym (w.shadow_rest past)) (over_goes m s b o.disk o'.disk r (w.to_over past).writes.goes)
  ]

  -- the blocks that were written stand in it
  pub slot_done : IsTold s → IsTold o.disk → (slot < own → 64 * own ≤ s.size) → (own ≤ slot → slot_from (slot - own) + 64 ≤ o.disk.size)
      → OnOk r ((i : ℕ) → i < length bytes / 512 → in_slot own s'.image o'.disk.image slot (at + i) ≡ block_at (blocks_of bytes) i)
  slot_done told_s told_o room_s room_o = elim (cases_lt slot own) [
    | inl lt ↦ on_ok_weaker r (λ is i b.
        in_own own s'.image o'.disk.image slot (at + i) lt
        ∙ ap (λ (img : Image). block_at img (64 * slot + (at + i))) is
        ∙ there s.image (64 * slot + at) (64 * slot + (at + i)) i b (omega arith) (let room = room_s lt in omega (arith, told_s, room, lt, fits, b))) ((w.to_own lt).done told_s)
    | inr past ↦ on_ok_weaker r (λ is i b.
        in_over own s'.image o'.disk.image slot (at + i) past
        ∙ ap (λ (img : Image). block_at img (slot_from (slot - own) + (at + i))) is
        ∙ there o.disk.image (slot_from (slot - own) + at) (slot_from (slot - own) + (at + i)) i b (omega arith) (let room = room_o past in omega (arith, told_o, room, fits, b))) ((w.to_over past).writes.done told_o)
  ]
    where
      there : (img : Image) (from j i : ℕ) → i < length bytes / 512 → j ≡ from + i → j < length img → block_at (put img from (blocks_of bytes)) j ≡ block_at (blocks_of bytes) i
      there img from j i b is inside =
          put_inside img from (blocks_of bytes) j (omega (arith, is)) (omega (arith, is, b, length-blocks_of bytes)) inside
          ∙ same_place (blocks_of bytes) (j - from) i (omega (arith, is))

  -- the slot's other blocks stay
  pub slot_kept : IsTold s → IsTold o.disk → (i : ℕ) → (i < at) ⊎ (at + length bytes / 512 ≤ i) → in_slot own s'.image o'.disk.image slot i ≡ in_slot own s.image o.disk.image slot i
  slot_kept told_s told_o i out = elim (cases_lt slot own) [
    | inl lt ↦ in_own own s'.image o'.disk.image slot i lt ∙ (own_within lt told_s).outside (64 * slot + i) (moved (64 * slot) i out) ∙ sym (in_own own s.image o.disk.image slot i lt)
    | inr past ↦ in_over own s'.image o'.disk.image slot i past ∙ (over_within past told_o).outside (slot_from (slot - own) + i) (moved (slot_from (slot - own)) i out) ∙ sym (in_over own s.image o.disk.image slot i past)
  ]
    where
      moved : (from j : ℕ) → (j < at) ⊎ (at + length bytes / 512 ≤ j) → (from + j < from + at) ⊎ (from + at + length bytes / 512 ≤ from + j)
      moved from j (inl low) = inl (omega (arith, low))
      moved from j (inr high) = inr (omega (arith, high))

  -- each of its blocks is old or new where the write failed
  pub slot_failed : IsTold s → IsTold o.disk
      → OnErr r ((i : ℕ) → i < length bytes / 512 → (in_slot own s'.image o'.disk.image slot (at + i) ≡ in_slot own s.image o.disk.image slot (at + i)) ⊎ (in_slot own s'.image o'.disk.image slot (at + i) ≡ block_at (blocks_of bytes) i))
  slot_failed told_s told_o = elim (cases_lt slot own) [
    | inl lt ↦ on_err_weaker r (λ mix i b. mixed (in_own own s'.image o'.disk.image slot (at + i) lt) (in_own own s.image o.disk.image slot (at + i) lt) (torn s.image s'.image (64 * slot + at) (64 * slot + (at + i)) i b (omega arith) mix)) ((w.to_own lt).failed told_s)
    | inr past ↦ on_err_weaker r (λ mix i b. mixed (in_over own s'.image o'.disk.image slot (at + i) past) (in_over own s.image o.disk.image slot (at + i) past) (torn o.disk.image o'.disk.image (slot_from (slot - own) + at) (slot_from (slot - own) + (at + i)) i b (omega arith) mix)) ((w.to_over past).writes.failed told_o)
  ]
    where
      torn : (img new : Image) (from j i : ℕ) → i < length bytes / 512 → j ≡ from + i → IsMix img from (blocks_of bytes) new → (block_at new j ≡ block_at img j) ⊎ (block_at new j ≡ block_at (blocks_of bytes) i)
      torn img new from j i b is mix = elim (mix.inside j (omega (arith, is)) (omega (arith, is, b, length-blocks_of bytes))) [
        | inl same ↦ inl same
        | inr set ↦ inr (set ∙ same_place (blocks_of bytes) (j - from) i (omega (arith, is)))
      ]

      mixed : {a b a' b' c : Block} → a' ≡ a → b' ≡ b → (a ≡ b) ⊎ (a ≡ c) → (a' ≡ b') ⊎ (a' ≡ c)
      mixed x y (inl same) = inl (x ∙ same ∙ sym y)
      mixed x y (inr set) = inr (x ∙ set)

-- ---- blocks of a slot that are read

module _ (s s' : Seen) (o o' : OverSet) (own slot : ℕ) (out : List ℕ) {T E : Type 0} (r : Result T E) (q : ReadsOne s o own slot 0 out r s' o') where
  pub read_goes : (m b : Seen) → AllGoOn (four m s b o.disk) r (four m s' b o'.disk)
  read_goes m b = elim (cases_lt slot own) [
    | inl lt ↦ subst (λ (z : OverSet). AllGoOn (four m s b o.disk) r (four m s' b z.disk)) (sym (q.over_rest lt)) (shadow_goes m s s' b o.disk r (q.from_own lt).goes)
    | inr past ↦ subst (λ (d : Seen). AllGoOn (four m s b o.disk) r (four m d b o'.disk)) (sym (q.shadow_rest past)) (over_goes m s b o.disk o'.disk r (q.from_over past).reads.goes)
  ]

  pub read_shadow : s' ≡ record s { faults = s'.faults }
  read_shadow = elim (cases_lt slot own) [
    | inl lt ↦ (q.from_own lt).rest
    | inr past ↦ q.shadow_rest past ∙ ap (λ (n : ℕ). record s { faults = n }) (sym (ap (λ (d : Seen). d.faults) (q.shadow_rest past)))
  ]

  pub read_over : o' ≡ record o { disk = record o.disk { faults = o'.disk.faults } }
  read_over = elim (cases_lt slot own) [
    | inl lt ↦ q.over_rest lt ∙ ap (λ (n : ℕ). record o { disk = record o.disk { faults = n } }) (sym (ap (λ (z : OverSet). z.disk.faults) (q.over_rest lt)))
    | inr past ↦ (q.from_over past).rest ∙ ap (λ (d : Seen). record o { disk = d }) (q.from_over past).reads.rest
  ]

  pub read_shows : IsTold s → IsTold o.disk → OnOk r ((i : ℕ) → i < length out / 512 → block_at (blocks_of out) i ≡ in_slot own s.image o.disk.image slot i)
  read_shows told_s told_o = elim (cases_lt slot own) [
    | inl lt ↦ on_ok_weaker r (λ shown i b.
        ap (λ (img : Image). block_at img i) shown
        ∙ block_at-range s.image (64 * slot + 0) (length out / 512) i b
        ∙ same_place s.image (64 * slot + 0 + i) (64 * slot + i) (omega arith)
        ∙ sym (in_own own s.image o.disk.image slot i lt)) ((q.from_own lt).shows told_s)
    | inr past ↦ on_ok_weaker r (λ shown i b.
        ap (λ (img : Image). block_at img i) shown
        ∙ block_at-range o.disk.image (slot_from (slot - own) + 0) (length out / 512) i b
        ∙ same_place o.disk.image (slot_from (slot - own) + 0 + i) (slot_from (slot - own) + i) (omega arith)
        ∙ sym (in_over own s.image o.disk.image slot i past)) ((q.from_over past).reads.shows told_o)
  ]

-- ---- a chunk is copied into a slot

pub in_unread : {T E T' E' : Type 0} (m m' s : Seen) (o : OverSet) (own slot at len : ℕ) (out : List ℕ) (q : Result T' E') (x : E') (y : E) → q ≡ Err x → Reads m at out q m' → CopiesIn {T = T} m s o own slot at len (Err y) m' s o
in_unread {T} {E} {T'} {E'} m m' s o own slot at len out q x y is reads =
    let rd = subst (λ (r : Result T' E'). Reads m at out r m') is reads in
    record {
      goes = λ b. master_goes m m' s b o.disk (Err y) (goes_err m m' x y rd.goes);
      master = rd.rest;
      over = refl;
      only = λ told. record { label = refl; others = λ k i b ne. refl };
      others = λ told_s told_o. record { each = λ k i b ne. refl };
      copied = λ _ _ _. tt;
      work = λ b. record { done = tt; most = each_disk (λ d. (four m' s b o.disk d).written ≤ (four m s b o.disk d).written + slot_work own slot len d) (let k = ap (λ (d : Seen). d.written) rd.rest in omega (arith, k)) (omega arith) (omega arith) (omega arith) };
    }

pub in_written : {T E T' E' : Type 0} (m m' s s' : Seen) (o o' : OverSet) (own slot at len : ℕ) (out : List ℕ) (q : Result T' E') (x : T') (r : Result T E)
    → length out ≡ 512 * len → 0 < len → len ≤ 64 → (slot < own → 64 * own ≤ s.size) → (own ≤ slot → slot_from (slot - own) + 64 ≤ o.disk.size)
    → q ≡ Ok x → Reads m at out q m' → WritesOne s o own slot 0 out r s' o' → CopiesIn m s o own slot at len r m' s' o'
in_written {T} {E} {T'} {E'} m m' s s' o o' own slot at len out q x r long some few room_s room_o is reads w =
    let rd = subst (λ (p : Result T' E'). Reads m at out p m') is reads in
    let count : length out / 512 ≡ len = omega (arith, long) in
    let fits : 0 + length out / 512 ≤ 64 = omega (arith, count, few) in
    record {
      goes = λ b. all_then (four m s b o.disk) (four m' s b o.disk) (four m' s' b o'.disk) x r (master_goes m m' s b o.disk (Ok x) rd.goes) (slot_goes s s' o o' own slot 0 out r w fits m' b);
      master = rd.rest;
      over = over_kept s s' o o' own slot 0 out r w fits;
      only = only_slot s s' o o' own slot 0 out r w fits;
      others = other_slots s s' o o' own slot 0 out r w fits;
      copied = λ told_m told_s told_o. on_ok_weaker r (λ done i b.
          let here : i < length out / 512 = omega (arith, b, count) in
          let e : i ≡ 0 + i = omega arith in
          ap (λ (k : ℕ). in_slot own s'.image o'.disk.image slot k) e
          ∙ done i here
          ∙ ap (λ (img : Image). block_at img i) (rd.shows told_m)
          ∙ block_at-range m.image at (length out / 512) i here) (slot_done s s' o o' own slot 0 out r w fits told_s told_o room_s room_o);
      work = λ b. subst (λ (n : ℕ). Adds (four m s b o.disk) (slot_work own slot n) r (four m' s' b o'.disk)) count (slot_adds s s' o o' own slot 0 out r w fits (omega (arith, count, some)) m m' b (ap (λ (d : Seen). d.written) rd.rest));
    }

-- ---- and out of one

pub out_unread : {T E T' E' : Type 0} (m s s' : Seen) (o o' : OverSet) (own slot at len : ℕ) (out : List ℕ) (q : Result T' E') (x : E') (y : E) → q ≡ Err x → ReadsOne s o own slot 0 out q s' o' → CopiesOut {T = T} m s o own slot at len (Err y) m s' o'
out_unread {T} {E} {T'} {E'} m s s' o o' own slot at len out q x y is reads =
    let rd = subst (λ (r : Result T' E'). ReadsOne s o own slot 0 out r s' o') is reads in
    record {
      goes = λ b. all_err (four m s b o.disk) (four m s' b o'.disk) x y (read_goes s s' o o' own slot out (Err x) rd m b);
      shadow = read_shadow s s' o o' own slot out (Err x) rd;
      over = read_over s s' o o' own slot out (Err x) rd;
      within = λ told. ChangesWithin-same at len m.image;
      copied = λ _ _ _. tt;
      work = λ b. record {
        done = tt;
        most = each_disk (λ d. (four m s' b o'.disk d).written ≤ (four m s b o.disk d).written + out_work len d) (omega arith)
            (let k = ap (λ (d : Seen). d.written) (read_shadow s s' o o' own slot out (Err x) rd) in omega (arith, k)) (omega arith) (let k = ap (λ (z : OverSet). z.disk.written) (read_over s s' o o' own slot out (Err x) rd) in omega (arith, k));
      };
    }

pub out_written : {T E T' E' : Type 0} (m m' s s' : Seen) (o o' : OverSet) (own slot at len : ℕ) (out : List ℕ) (q : Result T' E') (x : T') (r : Result T E)
    → length out ≡ 512 * len → 0 < len → at + len ≤ m.size → q ≡ Ok x → ReadsOne s o own slot 0 out q s' o' → Writes m at out r m' → CopiesOut m s o own slot at len r m' s' o'
out_written {T} {E} {T'} {E'} m m' s s' o o' own slot at len out q x r long some room is reads w =
    let rd = subst (λ (p : Result T' E'). ReadsOne s o own slot 0 out p s' o') is reads in
    let count : length out / 512 ≡ len = omega (arith, long) in
    record {
      goes = λ b. all_then (four m s b o.disk) (four m s' b o'.disk) (four m' s' b o'.disk) x r (read_goes s s' o o' own slot out (Ok x) rd m b) (master_goes m m' s' b o'.disk r w.goes);
      shadow = read_shadow s s' o o' own slot out (Ok x) rd;
      over = read_over s s' o o' own slot out (Ok x) rd;
      within = λ told. subst (λ (n : ℕ). ChangesWithin at n m.image m'.image) count (w.within told);
      copied = λ told_m told_s told_o. on_ok_weaker r (λ done i b.
          let here : i < length out / 512 = omega (arith, b, count) in
          ap (λ (img : Image). block_at img (at + i)) done
          ∙ put_inside m.image at (blocks_of out) (at + i) (omega arith) (omega (arith, here, length-blocks_of out)) (omega (arith, told_m, room, b))
          ∙ same_place (blocks_of out) (at + i - at) i (omega arith)
          ∙ (read_shows s s' o o' own slot out (Ok x) rd told_s told_o) i here) (w.done told_m);
      work = λ b.
          let shadow : s'.written ≡ s.written = ap (λ (d : Seen). d.written) (read_shadow s s' o o' own slot out (Ok x) rd) in
          let over : o'.disk.written ≡ o.disk.written = ap (λ (z : OverSet). z.disk.written) (read_over s s' o o' own slot out (Ok x) rd) in
          adds_four m s b o.disk m' s' b o'.disk (out_work len) r
          (now_written m m' len (length out / 512) r (omega (arith, count, some)) (sym count) w.counted) (same_written s s' 0 r shadow refl) (same_written b b 0 r refl refl) (same_written o.disk o'.disk 0 r over refl)
          (now_most m m' len r w.uncounted) (same_most s s' 0 r shadow) (same_most b b 0 r refl) (same_most o.disk o'.disk 0 r over);
    }

-- ---- a chunk, whichever way it goes

pub record Copied {T E : Type 0} (own state : ℕ) (m s d : Seen) (slot at len : ℕ) (result : Result T E) (m_new s_new d_new : Seen) : Type 0 where
  pub goes : (b : Seen) → AllGoOn (four m s b d) result (four m_new s_new b d_new)
  pub master_same : state ≢ 3 → m_new.image ≡ m.image
  pub slots_same : state ≢ 0 → (s_new.image ≡ s.image) × (d_new.image ≡ d.image)
  pub within : IsTold m → ChangesWithin at len m.image m_new.image
  pub only : IsTold d → OnlySlot own slot d.image d_new.image
  pub others : IsTold s → IsTold d → OtherSlots own slot s.image d.image s_new.image d_new.image
  pub to_slot : IsTold m → IsTold s → IsTold d → state ≡ 0 → OnOk result ((i : ℕ) → i < len → in_slot own s_new.image d_new.image slot i ≡ block_at m.image (at + i))
  pub to_master : IsTold m → IsTold s → IsTold d → state ≡ 3 → OnOk result ((i : ℕ) → i < len → block_at m_new.image (at + i) ≡ in_slot own s.image d.image slot i)
  pub work : (b : Seen) → Adds (four m s b d) (copy_work own state slot len) result (four m_new s_new b d_new)

zero_three : (k : ℕ) → k ≡ 0 → k ≢ 3
zero_three k a b = omega (arith, a, b)

pub copied_in : {T E : Type 0} (m m' s s' : Seen) (o o' : OverSet) (own slot at len : ℕ) (r : Result T E) → CopiesIn m s o own slot at len r m' s' o' → Copied own 0 m s o.disk slot at len r m' s' o'.disk
copied_in m m' s s' o o' own slot at len r c =
    let same : m'.image ≡ m.image = ap (λ (d : Seen). d.image) c.master in
    record {
      goes = c.goes;
      master_same = λ _. same;
      slots_same = λ ne. absurd (ne refl);
      within = λ _. subst (λ (l : Image). ChangesWithin at len m.image l) (sym same) (ChangesWithin-same at len m.image);
      only = c.only;
      others = c.others;
      to_slot = λ a b d _. c.copied a b d;
      to_master = λ _ _ _ three. absurd (zero_three 0 refl three);
      work = c.work;
    }

same_only : (own slot : ℕ) (a b : Image) → b ≡ a → OnlySlot own slot a b
same_only own slot a b is = record { label = ap (λ (l : Image). block_at l 0) is; others = λ k i lt ne. ap (λ (l : Image). block_at l (slot_from k + i)) is }

same_others : (own slot : ℕ) (a b a' b' : Image) → a' ≡ a → b' ≡ b → OtherSlots own slot a b a' b'
same_others own slot a b a' b' is is' = record { each = λ k i lt ne. ap (λ (l : Image). in_slot own l b' k i) is ∙ ap (λ (l : Image). in_slot own a l k i) is' }

module _ {T E : Type 0} (entry : ℕ) (some : state_by entry ≢ 0) (m m' s s' : Seen) (o o' : OverSet) (own at len : ℕ) where
  out_copied : (r : Result T E) → state_by entry ≡ 3 → CopiesOut m s o own (slot_by entry) at len r m' s' o' → Copied own (state_by entry) m s o.disk (slot_by entry) at len r m' s' o'.disk
  out_copied r is c =
      let s_is : s'.image ≡ s.image = ap (λ (d : Seen). d.image) c.shadow in
      let o_is : o'.disk.image ≡ o.disk.image = ap (λ (z : OverSet). z.disk.image) c.over in
      record {
        goes = c.goes;
        master_same = λ other. absurd (other is);
        slots_same = λ _. (s_is, o_is);
        within = c.within;
        only = λ _. same_only own (slot_by entry) o.disk.image o'.disk.image o_is;
        others = λ _ _. same_others own (slot_by entry) s.image o.disk.image s'.image o'.disk.image s_is o_is;
        to_slot = λ _ _ _ zero. absurd (some zero);
        to_master = λ a b d _. c.copied a b d;
        work = λ b. adds_as (four m s b o.disk) (four m' s' b o'.disk) (out_work len) (copy_work own (state_by entry) (slot_by entry) len) r
            (λ d. sym (cond_not (state_by entry) 0 (slot_work own (slot_by entry) len d) (cond (eqb (state_by entry) 3) (out_work len d) 0) some ∙ cond_is (state_by entry) 3 (out_work len d) 0 is)) (c.work b);
      }

  alone : (r : Result T E) → IsOk r → state_by entry ≢ 3 → Copied own (state_by entry) m s o.disk (slot_by entry) at len r m s o.disk
  alone (Err e) ok other = absurd (false≢true ok)
  alone (Ok x) ok other = record {
    goes = λ b. all_same (four m s b o.disk) x;
    master_same = λ _. refl;
    slots_same = λ _. (refl, refl);
    within = λ _. ChangesWithin-same at len m.image;
    only = λ _. same_only own (slot_by entry) o.disk.image o.disk.image refl;
    others = λ _ _. same_others own (slot_by entry) s.image o.disk.image s.image o.disk.image refl refl;
    to_slot = λ _ _ _ zero. absurd (some zero);
    to_master = λ _ _ _ three. absurd (other three);
    work = λ b. adds_same (four m s b o.disk) (copy_work own (state_by entry) (slot_by entry) len) x
        (λ d. cond_not (state_by entry) 0 (slot_work own (slot_by entry) len d) (cond (eqb (state_by entry) 3) (out_work len d) 0) some ∙ cond_not (state_by entry) 3 (out_work len d) 0 other);
  }

  pub copied_back : (r : Result T E) → CopiesBack entry m s o own at len r m' s' o' → Copied own (state_by entry) m s o.disk (slot_by entry) at len r m' s' o'.disk
  copied_back r c = elim (cases_eq (state_by entry) 3) [
    | inl is ↦ out_copied r is (c.out is)
    | inr other ↦ (let n = c.nothing other in
        subst (λ (d : Seen). Copied own (state_by entry) m s o.disk (slot_by entry) at len r d s' o'.disk) (sym n.1.0)
        (subst (λ (d : Seen). Copied own (state_by entry) m s o.disk (slot_by entry) at len r m d o'.disk) (sym n.1.1.0)
        (subst (λ (z : OverSet). Copied own (state_by entry) m s o.disk (slot_by entry) at len r m s z.disk) (sym n.1.1.1) (alone r n.0 other))))
  ]

-- the owners of the slots stay
pub back_owners : {T E : Type 0} (entry : ℕ) (m m' s s' : Seen) (o o' : OverSet) (own at len : ℕ) (r : Result T E) → CopiesBack entry m s o own at len r m' s' o' → o' ≡ record o { disk = o'.disk }
back_owners entry m m' s s' o o' own at len r c = elim (cases_eq (state_by entry) 3) [
  | inl is ↦ (let k = (c.out is).over in k ∙ ap (λ (d : Seen). record o { disk = d }) (sym (ap (λ (z : OverSet). z.disk) k)))
  | inr other ↦ (let k = (c.nothing other).1.1.1 in k ∙ ap (λ (d : Seen). record o { disk = d }) (sym (ap (λ (z : OverSet). z.disk) k)))
]

-- the disks last
pub back_goes : {T E : Type 0} (entry : ℕ) (m m' s s' : Seen) (o o' : OverSet) (own at len : ℕ) (r : Result T E) → CopiesBack entry m s o own at len r m' s' o' → (b : Seen) → (d : CompactDisk) → Lasts (four m s b o.disk d) (four m' s' b o'.disk d)
back_goes entry m m' s s' o o' own at len r c b d = elim (cases_eq (state_by entry) 3) [
  | inl is ↦ ((c.out is).goes b).lasts d
  | inr ne ↦ (let n = c.nothing ne in
      subst (λ (k : Seen). Lasts (four m s b o.disk d) (four k s' b o'.disk d)) (sym n.1.0)
      (subst (λ (k : Seen). Lasts (four m s b o.disk d) (four m k b o'.disk d)) (sym n.1.1.0)
      (subst (λ (z : OverSet). Lasts (four m s b o.disk d) (four m s b z.disk d)) (sym n.1.1.1) (lasts_same (four m s b o.disk d)))))
]
