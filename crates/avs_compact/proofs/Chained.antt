-- One call on the contents after another, and chunks that are saved one after another.
use Rattle.std.proofs.Common.{◌≡◌, ◌≢◌, ◌⊎◌, inl, inr, ℕ, zero, suc, ◌+◌, ◌-◌, ◌/◌, ◌<◌, ◌≤◌, cond, eqb, Some, Result, Ok, Err, IsOk, ◌∙◌, sym, refl, ap, subst, arith}
use Rattle.std.proofs.lemmas.Bool.{cases_lt, cases_eq, false≢true}
use Rattle.std.proofs.lemmas.Result.{on_ok_weaker, on_err_weaker}
use Rattle.avs_seg.specs.declared.fault.Failed.{Failed}
use Rattle.avs_seg.specs.Segment.{seg_len}
use Rattle.avs_seg.proofs.Exits.{ok_exit, err_exit}
use Rattle.avs_dev.specs.Seen.{Seen}
use Rattle.avs_dev.proofs.Going.{all_then, all_same, all_err}
use Rattle.avs_over.specs.Over.{OverSet}
use Rattle.avs_entries.specs.Entries.{state_by, slot_by}
use Rattle.avs_entries.proofs.Counted.{count_from, cond_is, cond_not}
use Rattle.avs_compact.specs.CompactSet.{CompactSet, entry_of, disk_entry, chunks_of, need_of, room_of}
use Rattle.avs_compact.specs.Disks.{CompactDisk, Master, Bitmap, Over, disk_at}
use Rattle.avs_compact.specs.Work.{settled_work, settled_most, save_work, save_most, saved_work, saved_most}
use Rattle.avs_compact.specs.Calls.{IsKnown}
use Rattle.avs_compact.specs.Places.{ArePlaced, OnlyTakes, KeepsOver, SetsEntry, AreSame, Splits}
use Rattle.avs_compact.specs.Keeping.{IsPlaced, OwnFirst, KeepsBlocks, KeepsSlots, KeepsSet, CountsSlots, Settles, DoesNothing}
use Rattle.avs_compact.specs.Saving.{SavesOne, SavesAll, lacking, need_with}
use Rattle.avs_compact.proofs.Work.{up_to_none, up_to_as, up_to_then, save_less, sum_one, sum_more, sum_same, sum_below, sum_longer}
use Rattle.avs_compact.proofs.Placed.{stays, placed_same, only_takes_none, only_takes_then}
use Rattle.avs_compact.proofs.OwnFirst.{first_same}
use Rattle.avs_compact.proofs.Settled.{zero_state}

-- ---- nothing is done

pub slots_nothing : (s : CompactSet) (o : OverSet) → KeepsSlots s o s o
slots_nothing s o = record { there = λ t. t; placed = λ p. p; own_first = λ u. u; owners = only_takes_none s.set o.owners }

pub blocks_nothing : (s : CompactSet) (o : OverSet) (m : Seen) → IsKnown s o → IsPlaced s o → KeepsBlocks s o m.image s o m.image
blocks_nothing s o m kn p = record {
  shadow = λ i lt. refl;
  master = λ i lt. refl;
  only = λ i lt ne. refl;
  alike = λ a. a;
  back = λ c lt e. e;
  splits = λ c lt e. e;
  slots = λ c lt some. (some, refl);
  placed = placed_same (entry_of s) (disk_entry s) s.own (chunks_of s) s.set o.owners o.owners (λ c lt. sym (kn.step.each c lt)) (only_takes_none s.set o.owners) p;
}

pub keeps_nothing : {T E : Type 0} (s : CompactSet) (o : OverSet) (m : Seen) (x : T) → KeepsSet {E = E} s o m (Ok x) s o m
keeps_nothing s o m x = record {
  shape = record { set = refl; own = refl; blocks = refl; there = refl; areas = (refl, refl); live_b = refl; next = refl; ahead = refl };
  goes = all_same (disk_at s o m) x;
  bitmap = λ told. record { label = refl; staged = refl; clean = λ zeros. zeros };
  slots = slots_nothing s o;
  over = λ p told. record { label = refl; slots = λ k i lt ne. refl };
  blocks = λ kn p td. blocks_nothing s o m kn p;
  own_first = λ kn first. first_same (entry_of s) (disk_entry s) s.own (chunks_of s) s.ahead (λ c lt. sym (kn.step.each c lt)) first;
}

pub counts_nothing : (s : CompactSet) (o : OverSet) → CountsSlots s o 0 s o
counts_nothing s o = record { need = omega arith; room = refl; taken = λ t. t }

-- ---- two calls

pub slots_then : (a b d : CompactSet) (o o1 o2 : OverSet) → b.set ≡ a.set → KeepsSlots a o b o1 → KeepsSlots b o1 d o2 → KeepsSlots a o d o2
slots_then a b d o o1 o2 by p q = record {
  there = λ t. q.there (p.there t);
  placed = λ t. q.placed (p.placed t);
  own_first = λ u. q.own_first (p.own_first u);
  owners = only_takes_then a.set o.owners o1.owners o2.owners p.owners (subst (λ (k : ℕ). OnlyTakes k o1.owners o2.owners) by q.owners);
}

pub over_then : (set set' : ℕ) (o o1 o2 : OverSet) → set' ≡ set → OnlyTakes set' o1.owners o2.owners → KeepsOver set o o1 → KeepsOver set' o1 o2 → KeepsOver set o o2
over_then set set' o o1 o2 by takes p q = record {
  label = q.label ∙ p.label;
  slots = λ k i lt ne. q.slots k i lt (λ is. ne (is ∙ ap (λ (j : ℕ). Some j) by))
      ∙ p.slots k i lt (λ is. ne (stays set' o1.owners o2.owners k takes (is ∙ ap (λ (j : ℕ). Some j) (sym by)) ∙ ap (λ (j : ℕ). Some j) by));
}

pub blocks_then : (a b d : CompactSet) (o o1 o2 : OverSet) (m m1 m2 : Seen) → b.set ≡ a.set → b.own ≡ a.own → b.blocks ≡ a.blocks → KeepsBlocks a o m.image b o1 m1.image → KeepsBlocks b o1 m1.image d o2 m2.image → KeepsBlocks a o m.image d o2 m2.image
blocks_then a b d o o1 o2 m m1 m2 set own blocks f h = record {
  shadow = λ i lt. h.shadow i (at_b i lt) ∙ f.shadow i lt;
  master = λ i lt. h.master i (at_b i lt) ∙ f.master i lt;
  only = λ i lt ne. h.only i (at_b i lt) (λ e. ne (f.back (i / 64) (omega (arith, lt)) e)) ∙ f.only i lt ne;
  alike = λ al. h.alike (f.alike al);
  back = λ c lt e. f.back c lt (h.back c (chunk_b c lt) e);
  splits = λ c lt e. h.splits c (chunk_b c lt) (f.splits c lt e);
  slots = λ c lt some. (let k = f.slots c lt some in let l = h.slots c (chunk_b c lt) k.0 in (l.0, l.1 ∙ k.1));
  placed = subst (λ (n : ℕ). ArePlaced (disk_entry d) n (chunks_of a) a.set o2.owners) own
      (subst (λ (n : ℕ). ArePlaced (disk_entry d) b.own n a.set o2.owners) count_b
      (subst (λ (n : ℕ). ArePlaced (disk_entry d) b.own (chunks_of b) n o2.owners) set h.placed));
}
  where
    at_b : (i : ℕ) → i < a.blocks → i < b.blocks
    at_b i lt = omega (arith, lt, blocks)

    chunk_b : (c : ℕ) → c < chunks_of a → c < chunks_of b
    chunk_b c lt = omega (arith, lt, blocks)

    count_b : chunks_of b ≡ chunks_of a
    count_b = ap (λ (n : ℕ). (n + 63) / 64) blocks

module _ (a b d : CompactSet) (o o1 o2 : OverSet) (m m1 m2 : Seen) {T E T' E' : Type 0} (x : T') (r : Result T E) (p : KeepsSet {E = E'} a o m (Ok x) b o1 m1) (q : KeepsSet b o1 m1 r d o2 m2) (known : IsKnown a o → IsKnown b o1) where
  pub keeps_then : KeepsSet a o m r d o2 m2
  keeps_then = record {
    shape = record {
      set = q.shape.set ∙ p.shape.set;
      own = q.shape.own ∙ p.shape.own;
      blocks = q.shape.blocks ∙ p.shape.blocks;
      there = q.shape.there ∙ p.shape.there;
      areas = (q.shape.areas.0 ∙ p.shape.areas.0, q.shape.areas.1 ∙ p.shape.areas.1);
      live_b = q.shape.live_b ∙ p.shape.live_b;
      next = q.shape.next ∙ p.shape.next;
      ahead = q.shape.ahead ∙ p.shape.ahead;
    };
    goes = all_then (disk_at a o m) (disk_at b o1 m1) (disk_at d o2 m2) x r p.goes q.goes;
    bitmap = λ told.
        let f = p.bitmap told in
        let h = q.bitmap ((p.goes.lasts Bitmap).told told) in
        record { label = h.label ∙ f.label; staged = h.staged ∙ f.staged; clean = λ zeros. h.clean (f.clean zeros) };
    slots = slots_then a b d o o1 o2 p.shape.set p.slots q.slots;
    over = λ placed told. over_then a.set b.set o o1 o2 p.shape.set q.slots.owners (p.over placed told) (q.over (p.slots.placed placed) ((p.goes.lasts Over).told told));
    blocks = λ kn placed td. blocks_then a b d o o1 o2 m m1 m2 p.shape.set p.shape.own p.shape.blocks (p.blocks kn placed td) (q.blocks (known kn) (p.slots.placed placed) ((p.goes.lasts Master).told td));
    own_first = λ kn first. subst (λ (n : ℕ). OwnFirst (disk_entry d) n (chunks_of a) a.ahead) p.shape.own
        (subst (λ (n : ℕ). OwnFirst (disk_entry d) b.own ((n + 63) / 64) a.ahead) p.shape.blocks
        (subst (λ (n : ℕ). OwnFirst (disk_entry d) b.own (chunks_of b) n) p.shape.ahead (q.own_first (known kn) (p.slots.own_first first))));
  }

pub counts_then : (a b d : CompactSet) (o o1 o2 : OverSet) (v w : ℕ) → CountsSlots a o v b o1 → CountsSlots b o1 w d o2 → CountsSlots a o (v + w) d o2
counts_then a b d o o1 o2 v w p q = record { need = omega (arith, p.need, q.need); room = q.room ∙ p.room; taken = λ t. q.taken (p.taken t) }

pub counts_as : (a b : CompactSet) (o o1 : OverSet) (v w : ℕ) → v ≡ w → CountsSlots a o v b o1 → CountsSlots a o w b o1
counts_as a b o o1 v w is p = subst (λ (k : ℕ). CountsSlots a o k b o1) is p

-- the same whatever is answered beside
pub keeps_err : {T E T' E' : Type 0} (s s' : CompactSet) (o o' : OverSet) (m m' : Seen) (e : E) (e' : E') → KeepsSet {T = T} s o m (Err e) s' o' m' → KeepsSet {T = T'} s o m (Err e') s' o' m'
keeps_err s s' o o' m m' e e' p = record { shape = p.shape; goes = all_err (disk_at s o m) (disk_at s' o' m') e e' p.goes; bitmap = p.bitmap; slots = p.slots; over = p.over; blocks = p.blocks; own_first = p.own_first }

pub keeps_ok : {T E T' E' : Type 0} (s s' : CompactSet) (o o' : OverSet) (m m' : Seen) (x : T) (x' : T') → KeepsSet {E = E} s o m (Ok x) s' o' m' → KeepsSet {E = E'} s o m (Ok x') s' o' m'
keeps_ok s s' o o' m m' x x' p = record { shape = p.shape; goes = record { lasts = p.goes.lasts; done = p.goes.done; failed = tt }; bitmap = p.bitmap; slots = p.slots; over = p.over; blocks = p.blocks; own_first = p.own_first }

-- ---- how many chunks of a range have no slot

pub lacking_more : (s : CompactSet) (first n : ℕ) → lacking s first (n + 1) ≡ lacking s first n + cond (eqb (entry_of s (first + n)) 0) 1 0
lacking_more s first n =
    let e : n + 1 ≡ suc n = omega arith in
    ap (λ (k : ℕ). lacking s first k) e ∙ count_from (λ c. eqb (entry_of s c) 0) first n

pub lacking_less : (s : CompactSet) (first n k : ℕ) → lacking s first n ≤ lacking s first (n + k)
lacking_less s first n zero = (let e : n ≡ n + 0 = omega arith in subst (λ (j : ℕ). lacking s first n ≤ lacking s first j) e (omega arith))
lacking_less s first n (suc k) =
    let e : n + k + 1 ≡ n + suc k = omega arith in
    subst (λ (j : ℕ). lacking s first n ≤ lacking s first j) e (omega (arith, lacking_less s first n k, lacking_more s first (n + k)))

-- ---- one chunk is saved

splits_one : (a b : ℕ → ℕ) (n c : ℕ) → c < n → SetsEntry a b n c 2 → Splits a b n c (c + 1)
splits_one a b n c there one = record {
  inside = λ k lt low high. (let same : k ≡ c = omega (arith, low, high) in ap (λ (j : ℕ). state_by (b j)) same) ∙ one.now;
  slots = λ k lt some. elim (cases_eq k c) [
    | inl is ↦ ap (λ (j : ℕ). slot_by (b j)) is ∙ one.slot (λ z. some (ap a is ∙ z)) ∙ ap (λ (j : ℕ). slot_by (a j)) (sym is)
    | inr ne ↦ ap slot_by (one.others k lt ne)
  ];
  outside = λ k lt out. one.others k lt (apart k out);
}
  where
    apart : (k : ℕ) → (k < c) ⊎ (c + 1 ≤ k) → k ≢ c
    apart k (inl low) e = omega (arith, low, e)
    apart k (inr high) e = omega (arith, high, e)

splits_none : (a b : ℕ → ℕ) (n c : ℕ) → AreSame a b n → Splits a b n c c
splits_none a b n c same = record {
  inside = λ k lt low high. absurd (omega (arith, low, high));
  slots = λ k lt some. ap slot_by (same.each k lt);
  outside = λ k lt out. same.each k lt;
}

lacking_one : (s : CompactSet) (c : ℕ) → lacking s c 1 ≡ cond (eqb (entry_of s c) 0) 1 0
lacking_one s c =
    let e : c + 0 ≡ c = omega arith in
    let here : ◌≡◌ {A = ℕ} (cond (eqb (entry_of s (c + 0)) 0) 1 0) (cond (eqb (entry_of s c) 0) 1 0) = ap (λ (k : ℕ). cond (eqb (entry_of s k) 0) 1 0) e in
    let none : lacking s c 0 ≡ 0 = refl in
    omega (arith, lacking_more s c 0, here, none)

-- what is written of one chunk
abbrev saves : CompactSet → CompactSet → CompactDisk → ℕ → ℕ
saves s new d c = save_work s.own (state_by (entry_of s c)) (slot_by (entry_of new c)) (seg_len c s.blocks) d

abbrev saves_most : CompactSet → CompactDisk → ℕ → ℕ
saves_most s d c = save_most (state_by (entry_of s c)) (seg_len c s.blocks) d

module _ (s s' : CompactSet) (o o' : OverSet) (m m' : Seen) (c : ℕ) (there : c < chunks_of s) where
  settled_one : {T E : Type 0} (r : Result T E) → state_by (entry_of s c) ≢ 2 → Settles s o m c 2 r s' o' m' → SavesAll s o m c 1 r s' o' m'
  settled_one r whole p = record {
    keeps = p.keeps;
    done = λ kn. on_ok_weaker r (splits_one (disk_entry s) (disk_entry s') (chunks_of s) c there) (p.done kn);
    stopped = λ kn. on_err_weaker r (λ e. elim e [
      | inl same ↦ record { upto = c; low = omega arith; high = omega arith; splits = splits_none (disk_entry s) (disk_entry s') (chunks_of s) c same }
      | inr one ↦ record { upto = c + 1; low = omega arith; high = omega arith; splits = splits_one (disk_entry s) (disk_entry s') (chunks_of s) c there one }
    ]) (p.stopped kn);
    known = p.known;
    memory = on_ok_weaker r (splits_one (entry_of s) (entry_of s') (chunks_of s) c there) p.memory;
    counts = on_ok_weaker r (counts_as s s' o o' (cond (eqb (entry_of s c) 0) 1 0) (lacking s c 1) (sym (lacking_one s c))) p.counts;
    work = up_to_as (disk_at s o m) (disk_at s' o' m') (settled_work s s' c) (saved_work s s' c 1) (settled_most s c) (saved_most s c 1) r
        (ok_exit r (λ d. sym (sum_one (saves s s' d) c ∙ cond_not (state_by (entry_of s c)) 2 0 (settled_work s s' c d) whole)))
        (err_exit r (λ d. (let e = sum_one (saves_most s d) c ∙ cond_not (state_by (entry_of s c)) 2 0 (settled_most s c d) whole in omega (arith, e)))) p.work;
  }

state_zero_two : (e : ℕ) → state_by e ≡ 2 → e ≢ 0
state_zero_two e two z = (let zero_is = zero_state e z in omega (arith, zero_is, two))

nothing_one : {T E : Type 0} (s : CompactSet) (o : OverSet) (m : Seen) (c : ℕ) (x : T) → c < chunks_of s → state_by (entry_of s c) ≡ 2 → SavesAll {E = E} s o m c 1 (Ok x) s o m
nothing_one s o m c x there is = record {
  keeps = keeps_nothing s o m x;
  done = λ kn. record { inside = λ k lt low high. (let same : k ≡ c = omega (arith, low, high) in ap (λ (j : ℕ). state_by (disk_entry s j)) same) ∙ ap state_by (sym (kn.step.each c there)) ∙ is; slots = λ k lt some. refl; outside = λ k lt out. refl };
  stopped = λ kn. tt;
  known = λ kn. kn;
  memory = record { inside = λ k lt low high. (let same : k ≡ c = omega (arith, low, high) in ap (λ (j : ℕ). state_by (entry_of s j)) same) ∙ is; slots = λ k lt some. refl; outside = λ k lt out. refl };
  counts = counts_as s s o o 0 (lacking s c 1) (sym (lacking_one s c ∙ cond_not {A = ℕ} (entry_of s c) 0 1 0 (state_zero_two (entry_of s c) is))) (counts_nothing s o);
  work = up_to_none (disk_at s o m) (saved_work s s c 1) (saved_most s c 1) x (λ d. sum_one (saves s s d) c ∙ cond_is (state_by (entry_of s c)) 2 0 (settled_work s s c d) is);
}

pub saves_one : {T E : Type 0} (s s' : CompactSet) (o o' : OverSet) (m m' : Seen) (c : ℕ) (r : Result T E) → c < chunks_of s → SavesOne s o m c r s' o' m' → SavesAll s o m c 1 r s' o' m'
saves_one s s' o o' m m' c r there p = elim (cases_eq (state_by (entry_of s c)) 2) [
  | inl is ↦ none r (p.nothing is).0 (p.nothing is).1 is
  | inr whole ↦ settled_one s s' o o' m m' c there r whole (p.settles whole)
]
  where
    none : {T E : Type 0} (q : Result T E) → IsOk q → DoesNothing s o m s' o' m' → state_by (entry_of s c) ≡ 2 → SavesAll s o m c 1 q s' o' m'
    none {E = E} (Ok x) ok n is =
        subst (λ (z : CompactSet). SavesAll {E = E} s o m c 1 (Ok x) z o' m') (sym n.set)
        (subst (λ (z : OverSet). SavesAll {E = E} s o m c 1 (Ok x) s z m') (sym n.over)
        (subst (λ (d : Seen). SavesAll {E = E} s o m c 1 (Ok x) s o d) (sym n.master) (nothing_one s o m c x there is)))
    none (Err e) ok n is = absurd (false≢true ok)

-- ---- a range

pub saves_none : (s : CompactSet) (o : OverSet) (m : Seen) (first : ℕ) → SavesAll {T = Unit {0}} {E = Failed} s o m first 0 (Ok tt) s o m
saves_none s o m first = record {
  keeps = keeps_nothing s o m tt;
  done = λ kn. record { inside = λ k lt low high. absurd (omega (arith, low, high)); slots = λ k lt some. refl; outside = λ k lt out. refl };
  stopped = λ kn. tt;
  known = λ kn. kn;
  memory = record { inside = λ k lt low high. absurd (omega (arith, low, high)); slots = λ k lt some. refl; outside = λ k lt out. refl };
  counts = counts_nothing s o;
  work = up_to_none (disk_at s o m) (saved_work s s first 0) (saved_most s first 0) tt (λ d. refl);
}

-- an entry that tells a split chunk, or is as before, has a slot where it had one
splits_then : (a b d : ℕ → ℕ) (n first c e : ℕ) → first ≤ c → c ≤ e → Splits a b n first c → Splits b d n c e → Splits a d n first e
splits_then a b d n first c e low high p q = record {
  inside = λ k lt from to. elim (cases_lt k c) [
    | inl below ↦ ap state_by (q.outside k lt (inl below)) ∙ p.inside k lt from below
    | inr above ↦ q.inside k lt above to
  ];
  slots = λ k lt some. elim (cases_lt k c) [
    | inl below ↦ ap slot_by (q.outside k lt (inl below)) ∙ p.slots k lt some
    | inr above ↦ q.slots k lt (λ z. some (sym (p.outside k lt (inr above)) ∙ z)) ∙ p.slots k lt some
  ];
  outside = λ k lt out. q.outside k lt (behind k out) ∙ p.outside k lt (before k out);
}
  where
    behind : (k : ℕ) → (k < first) ⊎ (e ≤ k) → (k < c) ⊎ (e ≤ k)
    behind k (inl l) = inl (omega (arith, l, low))
    behind k (inr h) = inr h

    before : (k : ℕ) → (k < first) ⊎ (e ≤ k) → (k < first) ⊎ (c ≤ k)
    before k (inl l) = inl l
    before k (inr h) = inr (omega (arith, h, high))

splits_as : (a b : ℕ → ℕ) (n n' first end end' : ℕ) → n' ≡ n → end ≡ end' → Splits a b n' first end → Splits a b n first end'
splits_as a b n n' first end end' n_is end_is p = subst (λ (k : ℕ). Splits a b n first k) end_is (subst (λ (k : ℕ). Splits a b k first end) n_is p)

module _ (s now new : CompactSet) (o on o' : OverSet) (m mn m' : Seen) (first n : ℕ) (there : first + n < chunks_of s) (so : SavesAll {T = Unit {0}} {E = Failed} s o m first n (Ok tt) now on mn) where
  count_is : chunks_of now ≡ chunks_of s
  count_is = ap (λ (k : ℕ). (k + 63) / 64) so.keeps.shape.blocks

  pub still : entry_of now (first + n) ≡ entry_of s (first + n)
  still = so.memory.outside (first + n) there (inr (omega arith))

  more_is : first + n + 1 ≡ first + (n + 1)
  more_is = omega arith

  work_then : lacking s first n + lacking now (first + n) 1 ≡ lacking s first (n + 1)
  work_then = ap (λ (k : ℕ). lacking s first n + k) (lacking_one now (first + n) ∙ ap (λ (k : ℕ). cond (eqb k 0) 1 0) still) ∙ sym (lacking_more s first n)

  -- what is written of all of them
  blocks_then_one : Splits (entry_of now) (entry_of new) (chunks_of now) (first + n) (first + n + 1) → (d : CompactDisk) → saved_work s now first n d + saved_work now new (first + n) 1 d ≡ saved_work s new first (n + 1) d
  blocks_then_one one d =
      let before = sum_same (saves s now d) (saves s new d) first n (λ c low lt. ap (λ (e : ℕ). save_work s.own (state_by (entry_of s c)) (slot_by e) (seg_len c s.blocks) d) (one.outside c (omega (arith, lt, there, so.keeps.shape.blocks)) (inl lt))) in
      let last : saves now new d (first + n) ≡ saves s new d (first + n) =
      ap (λ (k : ℕ). save_work k (state_by (entry_of now (first + n))) (slot_by (entry_of new (first + n))) (seg_len (first + n) now.blocks) d) so.keeps.shape.own
      ∙ ap (λ (k : ℕ). save_work s.own (state_by k) (slot_by (entry_of new (first + n))) (seg_len (first + n) now.blocks) d) still
      ∙ ap (λ (k : ℕ). save_work s.own (state_by (entry_of s (first + n))) (slot_by (entry_of new (first + n))) (seg_len (first + n) k) d) so.keeps.shape.blocks in
      omega (arith, before, last, sum_one (saves now new d) (first + n), sum_more (saves s new d) first n)

  most_then_one : (d : CompactDisk) → saved_most s first n d + saved_most now (first + n) 1 d ≡ saved_most s first (n + 1) d
  most_then_one d =
      let last : saves_most now d (first + n) ≡ saves_most s d (first + n) =
      ap (λ (k : ℕ). save_most (state_by k) (seg_len (first + n) now.blocks) d) still ∙ ap (λ (k : ℕ). save_most (state_by (entry_of s (first + n))) (seg_len (first + n) k) d) so.keeps.shape.blocks in
      omega (arith, last, sum_one (saves_most now d) (first + n), sum_more (saves_most s d) first n)

  then_one : {T E : Type 0} (r : Result T E) → SavesAll now on mn (first + n) 1 r new o' m' → SavesAll s o m first (n + 1) r new o' m'
  then_one r q = record {
    keeps = keeps_then s now new o on o' m mn m' tt r so.keeps q.keeps so.known;
    done = λ kn. on_ok_weaker r (λ one. splits_then (disk_entry s) (disk_entry now) (disk_entry new) (chunks_of s) first (first + n) (first + (n + 1)) (omega arith) (omega arith) (so.done kn)
        (splits_as (disk_entry now) (disk_entry new) (chunks_of s) (chunks_of now) (first + n) (first + n + 1) (first + (n + 1)) count_is more_is one)) (q.done (so.known kn));
    stopped = λ kn. on_err_weaker r (λ f. record {
      upto = f.upto;
      low = omega (arith, f.low);
      high = omega (arith, f.high);
      splits = splits_then (disk_entry s) (disk_entry now) (disk_entry new) (chunks_of s) first (first + n) f.upto (omega arith) f.low (so.done kn)
          (splits_as (disk_entry now) (disk_entry new) (chunks_of s) (chunks_of now) (first + n) f.upto f.upto count_is refl f.splits);
    }) (q.stopped (so.known kn));
    known = λ kn. q.known (so.known kn);
    memory = on_ok_weaker r (λ one. splits_then (entry_of s) (entry_of now) (entry_of new) (chunks_of s) first (first + n) (first + (n + 1)) (omega arith) (omega arith) so.memory
        (splits_as (entry_of now) (entry_of new) (chunks_of s) (chunks_of now) (first + n) (first + n + 1) (first + (n + 1)) count_is more_is one)) q.memory;
    counts = on_ok_weaker r (λ c. counts_as s new o o' (lacking s first n + lacking now (first + n) 1) (lacking s first (n + 1)) work_then (counts_then s now new o on o' (lacking s first n) (lacking now (first + n) 1) so.counts c)) q.counts;
    work = up_to_as (disk_at s o m) (disk_at new o' m') (λ d. saved_work s now first n d + saved_work now new (first + n) 1 d) (saved_work s new first (n + 1)) (λ d. saved_most s first n d + saved_most now (first + n) 1 d) (saved_most s first (n + 1)) r
        (on_ok_weaker r blocks_then_one q.memory) (err_exit r (λ d. (let e = most_then_one d in omega (arith, e))))
        (up_to_then (disk_at s o m) (disk_at now on mn) (disk_at new o' m') (saved_work s now first n) (saved_work now new (first + n) 1) (saved_most s first n) (saved_most now (first + n) 1) tt r
        (λ d. sum_below (saves s now d) (saves_most s d) first n (λ c. save_less s.own (state_by (entry_of s c)) (slot_by (entry_of now c)) (seg_len c s.blocks) d)) so.work q.work);
  }

  here : first + n < chunks_of now
  here = omega (arith, there, so.keeps.shape.blocks)

  -- there is a slot for the next chunk
  pub room_next : (count : ℕ) → n < count → need_with s first count ≤ room_of s o → entry_of now (first + n) ≡ 0 → need_of now < room_of now on
  room_next count lt room none =
      let one : ◌≡◌ {A = ℕ} (cond (eqb (entry_of s (first + n)) 0) 1 0) 1 = cond_is {A = ℕ} (entry_of s (first + n)) 0 1 0 (sym still ∙ none) in
      let e : n + 1 + (count - (n + 1)) ≡ count = omega (arith, lt) in
      let less : lacking s first (n + 1) ≤ lacking s first count = subst (λ (k : ℕ). lacking s first (n + 1) ≤ lacking s first k) e (lacking_less s first (n + 1) (count - (n + 1))) in
      omega (arith, room, so.counts.need, so.counts.room, lacking_more s first n, one, less)

  pub saves_more : (q : Result (Unit {0}) Failed) → q ≡ Ok tt → SavesOne now on mn (first + n) q new o' m' → SavesAll {T = Unit {0}} {E = Failed} s o m first (n + 1) (Ok tt) new o' m'
  saves_more q is p = subst (λ (r : Result (Unit {0}) Failed). SavesAll s o m first (n + 1) r new o' m') is (then_one q (saves_one now new on o' mn m' (first + n) q here p))

  pub saves_fail : (count : ℕ) (e : Failed) (q : Result (Unit {0}) Failed) → n < count → q ≡ Err e → SavesOne now on mn (first + n) q new o' m' → SavesAll {T = Unit {0}} s o m first count (Err e) new o' m'
  saves_fail count e q lt is p =
      let t = subst (λ (r : Result (Unit {0}) Failed). SavesAll s o m first (n + 1) r new o' m') is (then_one q (saves_one now new on o' mn m' (first + n) q here p)) in
      record {
        keeps = t.keeps;
        done = λ kn. tt;
        stopped = λ kn. let f = t.stopped kn in record { upto = f.upto; low = f.low; high = omega (arith, f.high, lt); splits = f.splits };
        known = λ kn. tt;
        memory = tt;
        counts = tt;
        work = record { done = tt; stopped = λ d. omega (arith, t.work.stopped d, sum_longer (saves_most s d) first (n + 1) count (omega (arith, lt))) };
      }

-- the same at an exit by another error
pub saves_err : {T E T' E' : Type 0} (s s' : CompactSet) (o o' : OverSet) (m m' : Seen) (first n : ℕ) (e : E) (e' : E') → SavesAll {T = T} s o m first n (Err e) s' o' m' → SavesAll {T = T'} s o m first n (Err e') s' o' m'
saves_err s s' o o' m m' first n e e' p = record {
  keeps = keeps_err s s' o o' m m' e e' p.keeps;
  done = λ kn. tt;
  stopped = p.stopped;
  known = λ kn. tt;
  memory = tt;
  counts = tt;
  work = record { done = tt; stopped = p.work.stopped };
}

pub saves_ok : {T E T' E' : Type 0} (s s' : CompactSet) (o o' : OverSet) (m m' : Seen) (first n : ℕ) (x : T) (x' : T') → SavesAll {E = E} s o m first n (Ok x) s' o' m' → SavesAll {E = E'} s o m first n (Ok x') s' o' m'
saves_ok s s' o o' m m' first n x x' p = record {
  keeps = keeps_ok s s' o o' m m' x x' p.keeps;
  done = p.done;
  stopped = λ kn. tt;
  known = p.known;
  memory = p.memory;
  counts = p.counts;
  work = record { done = p.work.done; stopped = tt };
}
