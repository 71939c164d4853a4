-- One call on the contents after another.
use Rattle.std.proofs.Common.{◌≡◌, ◌≢◌, ◌⊎◌, inl, inr, ℕ, ◌+◌, ◌-◌, ◌/◌, ◌<◌, ◌≤◌, Bool, IsTrue, List, Result, Ok, Err, ◌∙◌, sym, refl, ap, subst, arith}
use Rattle.std.proofs.lemmas.Bool.{cases_lt, cases_eq, false≢true}
use Rattle.std.proofs.lemmas.Result.{on_ok_weaker, on_err_weaker}
use Rattle.avs_seg.specs.declared.fault.Failed.{Failed}
use Rattle.avs_seg.specs.Segment.{seg_len}
use Rattle.avs_dev.specs.Seen.{Seen}
use Rattle.avs_dev.proofs.Going.{all_then, all_same}
use Rattle.avs_chunks.specs.States.{SetsOne, AreSame, Splits, state_in}
use Rattle.avs_chunks.specs.ChunkSet.{ChunkSet, state_of, disk_state, chunks_of, IsKnown, CanSave}
use Rattle.avs_chunks.specs.Disks.{ChunkDisk, Master, Shadow, Bitmap, disk_at, raised, Adds, settle_work, save_work, range_work}
use Rattle.avs_chunks.specs.Calls.{KeepsSet, Settles, DoesNothing, Saves}
use Rattle.avs_chunks.specs.Writing.{SavesRange}
use Rattle.avs_chunks.proofs.Going.{cond_is, cond_not, raised-then, raised_most, raised-none}
use Rattle.avs_chunks.proofs.Sums.{sum_none, sum_more, sum_one, sum_less}

-- ---- nothing is done

pub keeps_nothing : {T E : Type 0} (s : ChunkSet) (m : Seen) (x : T) → KeepsSet {E = E} s m (Ok x) s m
keeps_nothing s m x = record {
  shape = record { kind = refl; blocks = refl; there = refl; first = refl; len = refl; live_b = refl; next = refl };
  goes = all_same (disk_at s m) x;
  bitmap = λ told. record { label = refl; staged = refl; clean = λ zeros. zeros };
  behind = λ told. record { behind = λ i past. refl };
  blocks = λ kn td. record { shadow = λ i lt. refl; master = λ i lt. refl; only = λ i lt ne. refl; alike = λ a. a; back = λ c lt e. e; split = λ c lt e. e };
}

-- ---- two calls

module _ (a b d : ChunkSet) (m m1 m2 : Seen) {T E T' E' : Type 0} (x : T') (r : Result T E) (p : KeepsSet {E = E'} a m (Ok x) b m1) (q : KeepsSet b m1 r d m2) (known : IsKnown a → IsKnown b) where
  at_b : (i : ℕ) → i < a.blocks → i < b.blocks
  at_b i lt = omega (arith, lt, p.shape.blocks)

  chunk_b : (c : ℕ) → c < chunks_of a → c < chunks_of b
  chunk_b c lt = omega (arith, lt, p.shape.blocks)

  pub keeps_then : KeepsSet a m r d m2
  keeps_then = record {
    shape = record {
      kind = q.shape.kind ∙ p.shape.kind;
      blocks = q.shape.blocks ∙ p.shape.blocks;
      there = q.shape.there ∙ p.shape.there;
      first = q.shape.first ∙ p.shape.first;
      len = q.shape.len ∙ p.shape.len;
      live_b = q.shape.live_b ∙ p.shape.live_b;
      next = q.shape.next ∙ p.shape.next;
    };
    goes = all_then (disk_at a m) (disk_at b m1) (disk_at d m2) x r p.goes q.goes;
    bitmap = λ told.
        let f = p.bitmap told in
        let h = q.bitmap ((p.goes.lasts Bitmap).told told) in
        record { label = h.label ∙ f.label; staged = h.staged ∙ f.staged; clean = λ zeros. h.clean (f.clean zeros) };
    behind = λ told.
        let f = p.behind told in
        let h = q.behind ((p.goes.lasts Shadow).told told) in
        record { behind = λ i past. h.behind i (omega (arith, past, p.shape.blocks)) ∙ f.behind i past };
    blocks = λ kn td.
        let f = p.blocks kn td in
        let h = q.blocks (known kn) ((p.goes.lasts Master).told td) in
        record {
          shadow = λ i lt. h.shadow i (at_b i lt) ∙ f.shadow i lt;
          master = λ i lt. h.master i (at_b i lt) ∙ f.master i lt;
          only = λ i lt ne. h.only i (at_b i lt) (λ e. ne (f.back (i / 64) (omega (arith, lt)) e)) ∙ f.only i lt ne;
          alike = λ al. h.alike (f.alike al);
          back = λ c lt e. f.back c lt (h.back c (chunk_b c lt) e);
          split = λ c lt e. h.split c (chunk_b c lt) (f.split c lt e);
        };
  }

pub adds_then : {T E T' E' : Type 0} (old mid new : ChunkDisk → Seen) (v w : ChunkDisk → ℕ) (x : T') (r : Result T E) → Adds {E = E'} old v (Ok x) mid → Adds mid w r new → Adds old (λ d. v d + w d) r new
adds_then old mid new v w x r p q = record {
  done = on_ok_weaker r (λ n d. n d ∙ ap (λ (k : ℕ). raised k (w d)) (p.done d) ∙ raised-then (old d).written (v d) (w d)) q.done;
  most = on_err_weaker r (λ n d. (let k : (mid d).written ≤ (old d).written + v d = subst (λ (j : ℕ). j ≤ (old d).written + v d) (sym (p.done d)) (raised_most (old d).written (v d)) in omega (arith, n d, k))) q.most;
}

-- the same by other words, or where more may be written
pub adds_as : {T E : Type 0} (old new : ChunkDisk → Seen) (v w : ChunkDisk → ℕ) (r : Result T E) → ((d : ChunkDisk) → v d ≡ w d) → Adds old v r new → Adds old w r new
adds_as old new v w r same p = record {
  done = on_ok_weaker r (λ n d. n d ∙ ap (λ (k : ℕ). raised (old d).written k) (same d)) p.done;
  most = on_err_weaker r (λ n d. omega (arith, n d, same d)) p.most;
}

pub adds_wider : {T E T' : Type 0} (old new : ChunkDisk → Seen) (v w : ChunkDisk → ℕ) (e : E) → ((d : ChunkDisk) → v d ≤ w d) → Adds {T = T'} old v (Err e) new → Adds {T = T} old w (Err e) new
adds_wider old new v w e less p = record { done = tt; most = λ d. omega (arith, p.most d, less d) }

-- ---- one chunk is saved

splits_one : (a b : ℕ → ℕ) (n c : ℕ) → SetsOne a b n c 2 → Splits a b n c (c + 1)
splits_one a b n c one = record {
  inside = λ k lt low high. (let same : k ≡ c = omega (arith, low, high) in ap b same) ∙ one.now;
  outside = λ k lt out. one.others k lt (apart k out);
}
  where
    apart : (k : ℕ) → (k < c) ⊎ (c + 1 ≤ k) → k ≢ c
    apart k (inl low) e = omega (arith, low, e)
    apart k (inr high) e = omega (arith, high, e)

splits_none : (a b : ℕ → ℕ) (n c : ℕ) → AreSame a b n → Splits a b n c c
splits_none a b n c same = record { inside = λ k lt low high. absurd (omega (arith, low, high)); outside = λ k lt out. same.each k lt }

module _ (s s' : ChunkSet) (m m' : Seen) (c : ℕ) (there : c < chunks_of s) where
  settled_one : {T E : Type 0} (r : Result T E) → state_of s c ≢ 2 → Settles s m c 2 r s' m' → SavesRange s m c (c + 1) r s' m'
  settled_one r whole p = record {
    keeps = p.keeps;
    done = λ kn. on_ok_weaker r (splits_one (disk_state s) (disk_state s') (chunks_of s) c) (p.done kn);
    stopped = λ kn. on_err_weaker r (λ e. elim e [
      | inl same ↦ record { upto = c; low = omega arith; high = omega arith; splits = splits_none (disk_state s) (disk_state s') (chunks_of s) c same }
      | inr one ↦ record { upto = c + 1; low = omega arith; high = omega arith; splits = splits_one (disk_state s) (disk_state s') (chunks_of s) c one }
    ]) (p.stopped kn);
    known = p.known;
    memory = on_ok_weaker r (λ rem. splits_one (state_of s) (state_of s') (chunks_of s) c (record { now = rem.now; others = λ k lt ne. rem.others k ne })) p.memory;
    some = on_err_weaker r (λ same. record {
      upto = c;
      low = omega arith;
      high = omega arith;
      splits = splits_none (state_of s) (state_of s') (chunks_of s) c (record { each = λ k lt. ap (λ (l : List ℕ). state_in l k) same });
    }) p.unset;
    adds = adds_as (disk_at s m) (disk_at s' m') (settle_work (state_of s c) (seg_len c s.blocks)) (range_work s c (c + 1 - c)) r (λ d.
        sym (sum_one (λ k. save_work (state_of s k) (seg_len k s.blocks) d) c ∙ cond_not (state_of s c) 2 0 _ whole)) p.adds;
  }

nothing_one : {T E : Type 0} (s : ChunkSet) (m : Seen) (c : ℕ) (x : T) → c < chunks_of s → state_of s c ≡ 2 → SavesRange {E = E} s m c (c + 1) (Ok x) s m
nothing_one s m c x there is = record {
  keeps = keeps_nothing s m x;
  done = λ kn. record { inside = λ k lt low high. (let same : k ≡ c = omega (arith, low, high) in ap (disk_state s) same) ∙ sym (kn.step.each c there) ∙ is; outside = λ k lt out. refl };
  stopped = λ kn. tt;
  known = λ kn. kn;
  memory = record { inside = λ k lt low high. (let same : k ≡ c = omega (arith, low, high) in ap (state_of s) same) ∙ is; outside = λ k lt out. refl };
  some = tt;
  adds = record {
    done = λ d. sym (raised-none (disk_at s m d).written _ (sum_one (λ k. save_work (state_of s k) (seg_len k s.blocks) d) c ∙ cond_is (state_of s c) 2 0 _ is));
    most = tt;
  };
}

pub saves_one : {T E : Type 0} (s s' : ChunkSet) (m m' : Seen) (c : ℕ) (r : Result T E) → c < chunks_of s → Saves s m c r s' m' → SavesRange s m c (c + 1) r s' m'
saves_one s s' m m' c r there p = elim (cases_eq (state_of s c) 2) [
  | inl is ↦ none r (p.nothing is) is
  | inr whole ↦ settled_one s s' m m' c there r whole (p.settles whole)
]
  where
    none : {T E : Type 0} (q : Result T E) → DoesNothing s m q s' m' → state_of s c ≡ 2 → SavesRange s m c (c + 1) q s' m'
    none {E = E} (Ok x) n is = subst (λ (z : ChunkSet). SavesRange {E = E} s m c (c + 1) (Ok x) z m') (sym n.set) (subst (λ (d : Seen). SavesRange {E = E} s m c (c + 1) (Ok x) s d) (sym n.master) (nothing_one s m c x there is))
    none (Err e) n is = absurd (false≢true n.ok)

-- ---- a range

pub saves_none : (s : ChunkSet) (m : Seen) (first : ℕ) → SavesRange {T = Unit {0}} {E = Failed} s m first first (Ok tt) s m
saves_none s m first = record {
  keeps = keeps_nothing s m tt;
  done = λ kn. record { inside = λ k lt low high. absurd (omega (arith, low, high)); outside = λ k lt out. refl };
  stopped = λ kn. tt;
  known = λ kn. kn;
  memory = record { inside = λ k lt low high. absurd (omega (arith, low, high)); outside = λ k lt out. refl };
  some = tt;
  adds = record {
    done = λ d. sym (raised-none (disk_at s m d).written _ (sum_none (λ k. save_work (state_of s k) (seg_len k s.blocks) d) first));
    most = tt;
  };
}

splits_then : (a b d : ℕ → ℕ) (n first c e : ℕ) → first ≤ c → c ≤ e → Splits a b n first c → Splits b d n c e → Splits a d n first e
splits_then a b d n first c e low high p q = record {
  inside = λ k lt from to. elim (cases_lt k c) [
    | inl below ↦ q.outside k lt (inl below) ∙ p.inside k lt from below
    | inr above ↦ q.inside k lt above to
  ];
  outside = λ k lt out. q.outside k lt (behind k out) ∙ p.outside k lt (before k out);
}
  where
    behind : (k : ℕ) → (k < first) ⊎ (e ≤ k) → (k < c) ⊎ (e ≤ k)
    behind k (inl l) = inl (omega (arith, l, low))
    behind k (inr h) = inr h

    before : (k : ℕ) → (k < first) ⊎ (e ≤ k) → (k < first) ⊎ (c ≤ k)
    before k (inl l) = inl l
    before k (inr h) = inr (omega (arith, h, high))

module _ (s now new : ChunkSet) (m mn m' : Seen) (first c : ℕ) (low : first ≤ c) (there : c < chunks_of s) (so : SavesRange {T = Unit {0}} {E = Failed} s m first c (Ok tt) now mn) where
  splits_on : (d : ℕ → ℕ) (b : ℕ → ℕ) (e : ℕ) → c ≤ e → Splits d b (chunks_of now) c e → Splits d b (chunks_of s) c e
  splits_on d b e le q = record { inside = λ k lt. q.inside k (omega (arith, lt, so.keeps.shape.blocks)); outside = λ k lt. q.outside k (omega (arith, lt, so.keeps.shape.blocks)) }

  work_then : (d : ChunkDisk) → range_work s first (c - first) d + range_work now c (c + 1 - c) d ≡ range_work s first (c + 1 - first) d
  work_then d =
      ap (λ (k : ℕ). range_work s first (c - first) d + k)
      (sum_one (λ k. save_work (state_of now k) (seg_len k now.blocks) d) c
      ∙ ap (λ (n : ℕ). save_work n (seg_len c now.blocks) d) (so.memory.outside c there (inr (omega arith)))
      ∙ ap (λ (n : ℕ). save_work (state_of s c) (seg_len c n) d) so.keeps.shape.blocks)
      ∙ sym (sum_more (λ k. save_work (state_of s k) (seg_len k s.blocks) d) first c low)

  then_one : {T E : Type 0} (r : Result T E) → SavesRange now mn c (c + 1) r new m' → SavesRange s m first (c + 1) r new m'
  then_one r q = record {
    keeps = keeps_then s now new m mn m' tt r so.keeps q.keeps so.known;
    done = λ kn. on_ok_weaker r (λ one. splits_then (disk_state s) (disk_state now) (disk_state new) (chunks_of s) first c (c + 1) low (omega arith) (so.done kn) (splits_on (disk_state now) (disk_state new) (c + 1) (omega arith) one)) (q.done (so.known kn));
    stopped = λ kn. on_err_weaker r (λ f. record {
      upto = f.upto;
      low = omega (arith, low, f.low);
      high = f.high;
      splits = splits_then (disk_state s) (disk_state now) (disk_state new) (chunks_of s) first c f.upto low f.low (so.done kn) (splits_on (disk_state now) (disk_state new) f.upto f.low f.splits);
    }) (q.stopped (so.known kn));
    known = λ kn. q.known (so.known kn);
    memory = on_ok_weaker r (λ one. splits_then (state_of s) (state_of now) (state_of new) (chunks_of s) first c (c + 1) low (omega arith) so.memory (splits_on (state_of now) (state_of new) (c + 1) (omega arith) one)) q.memory;
    some = on_err_weaker r (λ f. record {
      upto = f.upto;
      low = omega (arith, low, f.low);
      high = f.high;
      splits = splits_then (state_of s) (state_of now) (state_of new) (chunks_of s) first c f.upto low f.low so.memory (splits_on (state_of now) (state_of new) f.upto f.low f.splits);
    }) q.some;
    adds = adds_as (disk_at s m) (disk_at new m') (λ d. range_work s first (c - first) d + range_work now c (c + 1 - c) d) (range_work s first (c + 1 - first)) r work_then
        (adds_then (disk_at s m) (disk_at now mn) (disk_at new m') (range_work s first (c - first)) (range_work now c (c + 1 - c)) tt r so.adds q.adds);
  }

  here : c < chunks_of now
  here = omega (arith, there, so.keeps.shape.blocks)

  pub saves_more : (q : Result (Unit {0}) Failed) → q ≡ Ok tt → Saves now mn c q new m' → SavesRange {T = Unit {0}} {E = Failed} s m first (c + 1) (Ok tt) new m'
  saves_more q is p = subst (λ (r : Result (Unit {0}) Failed). SavesRange s m first (c + 1) r new m') is (then_one q (saves_one now new mn m' c q here p))

  pub saves_fail : (end : ℕ) (e : Failed) (q : Result (Unit {0}) Failed) → c < end → q ≡ Err e → Saves now mn c q new m' → SavesRange {T = Unit {0}} s m first end (Err e) new m'
  saves_fail end e q lt is p =
      let t = subst (λ (r : Result (Unit {0}) Failed). SavesRange s m first (c + 1) r new m') is (then_one q (saves_one now new mn m' c q here p)) in
      record {
        keeps = t.keeps;
        done = λ kn. tt;
        stopped = λ kn. let f = t.stopped kn in record { upto = f.upto; low = f.low; high = omega (arith, f.high, lt); splits = f.splits };
        known = λ kn. tt;
        memory = tt;
        some = record { upto = t.some.upto; low = t.some.low; high = omega (arith, t.some.high, lt); splits = t.some.splits };
        adds = adds_wider (disk_at s m) (disk_at new m') (range_work s first (c + 1 - first)) (range_work s first (end - first)) e (λ d. sum_less (λ k. save_work (state_of s k) (seg_len k s.blocks) d) first (c + 1) end (omega (arith, low)) (omega (arith, lt))) t.adds;
      }

-- chunks can still be saved
pub can_then : {T E : Type 0} (a b : ChunkSet) (m m' : Seen) (first end : ℕ) (x : T) → SavesRange {E = E} a m first end (Ok x) b m' → CanSave a → CanSave b
can_then a b m m' first end x p (inl there) = inl (subst (λ (t : Bool). IsTrue t) (sym p.keeps.shape.there) there)
can_then a b m m' first end x p (inr settled) = inr (record {
  kind = p.keeps.shape.kind ∙ settled.kind;
  settled = λ k lt.
      let was : k < chunks_of a = omega (arith, lt, p.keeps.shape.blocks) in
      elim (cases_lt k first) [
        | inl low ↦ same k was (p.memory.outside k was (inl low))
        | inr from ↦ elim (cases_lt k end) [
          | inl within ↦ inr (p.memory.inside k was from within)
          | inr past ↦ same k was (p.memory.outside k was (inr past))
        ]
      ];
})
  where
    same : (k : ℕ) → k < chunks_of a → state_of b k ≡ state_of a k → (state_of b k ≡ 1) ⊎ (state_of b k ≡ 2)
    same k lt is = elim (settled.settled k lt) [ inl both ↦ inl (is ∙ both) | inr split ↦ inr (is ∙ split) ]
