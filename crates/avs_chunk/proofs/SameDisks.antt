-- What stands of a disk after one call and after two, and how counts of blocks add up.
use Rattle.std.proofs.Common.{◌≡◌, ◌≢◌, ◌⊎◌, inl, inr, ℕ, ◌+◌, ◌-◌, ◌*◌, ◌/◌, ◌^◌, ◌<◌, ◌≤◌, min, Bool, cond, eqb, length, IsTrue, Option, Some, None, is_some, Result, Ok, Err, IsOk, OnOk, OnErr, refl, sym, ◌∙◌, ap, subst, arith}
use Rattle.std.proofs.lemmas.Bool.{cases_eq, eq-eqb, false≢true}
use Rattle.std.proofs.lemmas.Bool.Decides.{eqb_tells}
use Rattle.avs_seg.specs.Image.{Image, range, blocks_of, put, ChangesWithin}
use Rattle.avs_seg.proofs.Bytes.{length-blocks_of}
use Rattle.avs_seg.proofs.Changes.{ChangesWithin-same}
use Rattle.avs_seg.proofs.Ranges.{range-put}
use Rattle.avs_seg.specs.Causes.{Rose}
use Rattle.avs_dev.specs.Seen.{Seen, IsTold, Reads, Writes, UsesTear, IsSpared}
use Rattle.avs_dev.proofs.Going.{spared_same}
use Rattle.avs_dev.specs.Memory.{counted}
use Rattle.avs_chunk.specs.Disks.{IsSameDisk, raised}
use Rattle.avs_chunk.specs.ChunkSet.{disk_of}
use Rattle.avs_chunk.specs.Steps.{CopiesSpan, CopiesChunk}

pub IsSameDisk-same : (d : Seen) → IsSameDisk d d
IsSameDisk-same d = record { size = refl; steady = refl; told = λ told. told; later = omega arith }

pub IsSameDisk-is : (d e : Seen) → e ≡ d → IsSameDisk d e
IsSameDisk-is d e is = subst (λ (x : Seen). IsSameDisk d x) (sym is) (IsSameDisk-same d)

pub IsSameDisk-then : (a b c : Seen) → IsSameDisk a b → IsSameDisk b c → IsSameDisk a c
IsSameDisk-then a b c p q = record {
  size = q.size ∙ p.size;
  steady = q.steady ∙ p.steady;
  told = λ told. q.told (p.told told);
  later = omega (arith, p.later, q.later);
}

pub IsSameDisk-faults : (d e : Seen) → e ≡ record d { faults = e.faults } → d.faults ≤ e.faults → IsSameDisk d e
IsSameDisk-faults d e is later = record {
  size = ap (λ (x : Seen). x.size) is;
  steady = ap (λ (x : Seen). x.steady) is;
  told = λ told. ap (λ (x : Seen). length x.image) is ∙ told ∙ sym (ap (λ (x : Seen). x.size) is);
  later = later;
}

pub IsSameDisk-writes : {T E : Type 0} (d e : Seen) (at : ℕ) (bytes : _) (r : Result T E) → Writes d at bytes r e → IsSameDisk d e
IsSameDisk-writes d e at bytes r w = record { size = w.size; steady = w.steady; told = w.told; later = w.cause.later }

-- ---- counts

pub cond_is : {A : Type 0} (a b : ℕ) (x y : A) → a ≡ b → cond (eqb a b) x y ≡ x
cond_is a b x y is = ap (λ (t : Bool). cond t x y) (eq-eqb a b is)

pub cond_not : {A : Type 0} (a b : ℕ) (x y : A) → a ≢ b → cond (eqb a b) x y ≡ y
cond_not a b x y other = elim (eqb_tells a b) [
  | inl same ↦ absurd (other same.1)
  | inr apart ↦ ap (λ (t : Bool). cond t x y) apart.0
]

pub raised-none : (w k : ℕ) → k ≡ 0 → raised w k ≡ w
raised-none w k none = cond_is k 0 _ _ none

pub raised-some : (w k : ℕ) → 0 < k → raised w k ≡ counted w k
raised-some w k some = cond_not k 0 _ _ (omega arith)

pub raised-then : (w a b : ℕ) → raised (raised w a) b ≡ raised w (a + b)
raised-then w a b = elim (cases_eq b 0) [
  | inl none ↦ raised-none (raised w a) b none ∙ ap (λ (k : ℕ). raised w k) (let e : a ≡ a + b = omega arith in e)
  | inr some ↦ elim (cases_eq a 0) [
    | inl none ↦ ap (λ (v : ℕ). raised v b) (raised-none w a none) ∙ ap (λ (k : ℕ). raised w k) (let e : b ≡ a + b = omega arith in e)
    | inr more ↦
        raised-some (raised w a) b (omega arith)
        ∙ ap (λ (v : ℕ). counted v b) (raised-some w a (omega arith))
        ∙ (let e : counted (counted w a) b ≡ counted w (a + b) = omega arith in e)
        ∙ sym (raised-some w (a + b) (omega arith))
  ]
]

pub raised_most : (w k : ℕ) → raised w k ≤ w + k
raised_most w k = elim (cases_eq k 0) [
  | inl none ↦ subst (λ (v : ℕ). v ≤ w + k) (sym (raised-none w k none)) (omega arith)
  | inr some ↦ subst (λ (v : ℕ). v ≤ w + k) (sym (raised-some w k (omega arith))) (omega arith)
]

pub raised_least : (w k : ℕ) → min w (2 ^ 64 - 1) ≤ raised w k
raised_least w k = elim (cases_eq k 0) [
  | inl none ↦ subst (λ (v : ℕ). min w (2 ^ 64 - 1) ≤ v) (sym (raised-none w k none)) (omega arith)
  | inr some ↦ subst (λ (v : ℕ). min w (2 ^ 64 - 1) ≤ v) (sym (raised-some w k (omega arith))) (omega arith)
]

-- ---- faults

pub Rose-later : (a b c : ℕ) → a ≤ b → Rose b c → Rose a c
Rose-later a b c le rose = omega (arith, le, rose)

-- ---- a copy by one read and one write

pub CopiesSpan-write : {T E S F : Type 0} (from from' to to' : Seen) (at len : ℕ) (out : _) (q : Result S F) (x : S) (r : Result T E)
    → length out ≡ 512 * len → at + len ≤ to.size → q ≡ Ok x → Reads from at out q from' → Writes to at out r to' → CopiesSpan from to at len r from' to'
CopiesSpan-write {S = S} {F = F} from from' to to' at len out q x r long fits is reads w =
    let count : length out / 512 ≡ len = omega arith in
    record {
      rest = reads.rest;
      later = reads.cause.later;
      disk = IsSameDisk-writes to to' at out r w;
      failed = wrong r w.cause.failed;
      armed = w.still_armed;
      spared = both r (subst (λ (p : Result S F). OnOk p (IsSpared from from')) is reads.goes.done) w.goes.done;
      used = λ _ steady. w.spent steady;
      within = λ told. subst (λ (k : ℕ). ChangesWithin at k to.image to'.image) count (w.within told);
      copied = λ told told_to. right r (subst (λ (p : Result S F). OnOk p (blocks_of out ≡ range from.image at (length out / 512))) is (reads.shows told)) (w.done told_to) (omega (arith, told_to)) count;
      counted = times r w.counted count;
      uncounted = w.uncounted;
    }
  where
    wrong : {T E : Type 0} (r : Result T E) → OnErr r (Rose to.faults to'.faults) → OnErr r (Rose from.faults from'.faults ⊎ Rose to.faults to'.faults)
    wrong (Ok y) h = tt
    wrong (Err e) h = inr h

    right : {T E : Type 0} (r : Result T E) → blocks_of out ≡ range from.image at (length out / 512) → OnOk r (to'.image ≡ put to.image at (blocks_of out)) → at + len ≤ length to.image → length out / 512 ≡ len → OnOk r (range to'.image at len ≡ range from.image at len)
    right (Ok y) shown done inside count =
        ap (λ (l : Image). range l at len) done
        ∙ ap (λ (k : ℕ). range (put to.image at (blocks_of out)) at k) (sym (length-blocks_of out ∙ count))
        ∙ range-put to.image at (blocks_of out) (omega (arith, length-blocks_of out, count))
        ∙ shown
        ∙ ap (λ (k : ℕ). range from.image at k) count
    right (Err e) shown done inside count = tt

    both : {T E : Type 0} (r : Result T E) → IsSpared from from' → OnOk r (IsSpared to to') → OnOk r (IsSpared from from' × IsSpared to to')
    both (Ok y) read written = (read, written)
    both (Err e) read written = tt

    times : {T E : Type 0} (r : Result T E) → OnOk r (to'.written ≡ min (to.written + length out / 512) (2 ^ 64 - 1)) → length out / 512 ≡ len → OnOk r (to'.written ≡ counted to.written len)
    times (Ok y) h count = h ∙ ap (λ (k : ℕ). counted to.written k) count
    times (Err e) h count = tt

-- ---- a copy of a chunk, whichever way it goes

pub record Copy {T E : Type 0} (state at k : ℕ) (r : Result T E) (m s m' s' : Seen) : Type 0 where
  pub master : IsSameDisk m m'
  pub shadow : IsSameDisk s s'
  pub failed : OnErr r (Rose m.faults m'.faults ⊎ Rose s.faults s'.faults)
  pub armed_m : OnOk r (IsSpared m m')
  pub armed_s : OnOk r (IsSpared s s')
  pub used : IsTrue m.steady → IsTrue s.steady → OnErr r ((UsesTear m m' × (s'.armed ≡ s.armed)) ⊎ (UsesTear s s' × (m'.armed ≡ m.armed)))
  pub m_same : state ≢ 3 → m'.image ≡ m.image
  pub s_same : state ≢ 0 → s'.image ≡ s.image
  pub m_within : IsTold m → ChangesWithin at k m.image m'.image
  pub s_within : IsTold s → ChangesWithin at k s.image s'.image
  pub alike : IsTold m → IsTold s → (state ≡ 0) ⊎ (state ≡ 3) → OnOk r (range s'.image at k ≡ range m'.image at k)
  pub counts_m : OnOk r (m'.written ≡ raised m.written (cond (eqb state 3) k 0))
  pub counts_s : OnOk r (s'.written ≡ raised s.written (cond (eqb state 0) k 0))
  pub most_m : m'.written ≤ m.written + cond (eqb state 3) k 0
  pub most_s : s'.written ≤ s.written + cond (eqb state 0) k 0
  pub least_m : min m.written (2 ^ 64 - 1) ≤ m'.written
  pub least_s : min s.written (2 ^ 64 - 1) ≤ s'.written

unwritten : (a b k : ℕ) → b ≡ a → b ≤ a + k
unwritten a b k is = omega arith

unfallen : (a b : ℕ) → b ≡ a → min a (2 ^ 64 - 1) ≤ b
unfallen a b is = omega arith

Copy-to_shadow : {T E : Type 0} (at k : ℕ) (r : Result T E) (m s m' s' : Seen) → 0 < k → CopiesSpan m s at k r m' s' → Copy 0 at k r m s m' s'
Copy-to_shadow at k (Ok x) m s m' s' some c = record {
  master = IsSameDisk-faults m m' c.rest c.later;
  shadow = c.disk;
  failed = tt;
  armed_m = c.spared.0;
  armed_s = c.spared.1;
  used = λ _ _. tt;
  m_same = λ _. ap (λ (d : Seen). d.image) c.rest;
  s_same = λ no. absurd (no refl);
  m_within = λ _. subst (λ (l : Image). ChangesWithin at k m.image l) (sym (ap (λ (d : Seen). d.image) c.rest)) (ChangesWithin-same at k m.image);
  s_within = c.within;
  alike = λ told_m told_s _. c.copied told_m told_s ∙ sym (ap (λ (d : Seen). range d.image at k) c.rest);
  counts_m = ap (λ (d : Seen). d.written) c.rest;
  counts_s = c.counted ∙ sym (raised-some s.written k some);
  most_m = unwritten m.written m'.written 0 (ap (λ (d : Seen). d.written) c.rest);
  most_s = (let e : s'.written ≡ counted s.written k = c.counted in omega arith);
  least_m = unfallen m.written m'.written (ap (λ (d : Seen). d.written) c.rest);
  least_s = (let e : s'.written ≡ counted s.written k = c.counted in omega arith);
}
Copy-to_shadow at k (Err x) m s m' s' some c = record {
  master = IsSameDisk-faults m m' c.rest c.later;
  shadow = c.disk;
  failed = c.failed;
  armed_m = tt;
  armed_s = tt;
  used = λ steady_m steady_s. inr (c.used steady_m steady_s, ap (λ (d : Seen). d.armed) c.rest);
  m_same = λ _. ap (λ (d : Seen). d.image) c.rest;
  s_same = λ no. absurd (no refl);
  m_within = λ _. subst (λ (l : Image). ChangesWithin at k m.image l) (sym (ap (λ (d : Seen). d.image) c.rest)) (ChangesWithin-same at k m.image);
  s_within = c.within;
  alike = λ _ _ _. tt;
  counts_m = tt;
  counts_s = tt;
  most_m = unwritten m.written m'.written 0 (ap (λ (d : Seen). d.written) c.rest);
  most_s = unwritten s.written s'.written k c.uncounted;
  least_m = unfallen m.written m'.written (ap (λ (d : Seen). d.written) c.rest);
  least_s = unfallen s.written s'.written c.uncounted;
}

Copy-to_master : {T E : Type 0} (at k : ℕ) (r : Result T E) (m s m' s' : Seen) → 0 < k → CopiesSpan s m at k r s' m' → Copy 3 at k r m s m' s'
Copy-to_master at k (Ok x) m s m' s' some c = record {
  master = c.disk;
  shadow = IsSameDisk-faults s s' c.rest c.later;
  failed = tt;
  armed_m = c.spared.1;
  armed_s = c.spared.0;
  used = λ _ _. tt;
  m_same = λ no. absurd (no refl);
  s_same = λ _. ap (λ (d : Seen). d.image) c.rest;
  m_within = c.within;
  s_within = λ _. subst (λ (l : Image). ChangesWithin at k s.image l) (sym (ap (λ (d : Seen). d.image) c.rest)) (ChangesWithin-same at k s.image);
  alike = λ told_m told_s _. ap (λ (d : Seen). range d.image at k) c.rest ∙ sym (c.copied told_s told_m);
  counts_m = c.counted ∙ sym (raised-some m.written k some);
  counts_s = ap (λ (d : Seen). d.written) c.rest;
  most_m = (let e : m'.written ≡ counted m.written k = c.counted in omega arith);
  most_s = unwritten s.written s'.written 0 (ap (λ (d : Seen). d.written) c.rest);
  least_m = (let e : m'.written ≡ counted m.written k = c.counted in omega arith);
  least_s = unfallen s.written s'.written (ap (λ (d : Seen). d.written) c.rest);
}
Copy-to_master at k (Err x) m s m' s' some c = record {
  master = c.disk;
  shadow = IsSameDisk-faults s s' c.rest c.later;
  failed = elim c.failed [ inl a ↦ inr a | inr b ↦ inl b ];
  armed_m = tt;
  armed_s = tt;
  used = λ steady_m steady_s. inl (c.used steady_s steady_m, ap (λ (d : Seen). d.armed) c.rest);
  m_same = λ no. absurd (no refl);
  s_same = λ _. ap (λ (d : Seen). d.image) c.rest;
  m_within = c.within;
  s_within = λ _. subst (λ (l : Image). ChangesWithin at k s.image l) (sym (ap (λ (d : Seen). d.image) c.rest)) (ChangesWithin-same at k s.image);
  alike = λ _ _ _. tt;
  counts_m = tt;
  counts_s = tt;
  most_m = unwritten m.written m'.written k c.uncounted;
  most_s = unwritten s.written s'.written 0 (ap (λ (d : Seen). d.written) c.rest);
  least_m = unfallen m.written m'.written c.uncounted;
  least_s = unfallen s.written s'.written (ap (λ (d : Seen). d.written) c.rest);
}

Copy-nothing : {T E : Type 0} (state at k : ℕ) (r : Result T E) (m s : Seen) → state ≢ 0 → state ≢ 3 → IsOk r → Copy state at k r m s m s
Copy-nothing state at k (Ok x) m s no_0 no_3 ok = record {
  master = IsSameDisk-same m;
  shadow = IsSameDisk-same s;
  failed = tt;
  armed_m = spared_same m;
  armed_s = spared_same s;
  used = λ _ _. tt;
  m_same = λ _. refl;
  s_same = λ _. refl;
  m_within = λ _. ChangesWithin-same at k m.image;
  s_within = λ _. ChangesWithin-same at k s.image;
  alike = λ _ _ one. elim one [ inl a ↦ absurd (no_0 a) | inr b ↦ absurd (no_3 b) ];
  counts_m = sym (raised-none m.written _ (cond_not state 3 k 0 no_3));
  counts_s = sym (raised-none s.written _ (cond_not state 0 k 0 no_0));
  most_m = omega arith;
  most_s = omega arith;
  least_m = omega arith;
  least_s = omega arith;
}
Copy-nothing state at k (Err x) m s no_0 no_3 ok = absurd (false≢true ok)

pub Copy-chunk : {T E : Type 0} (state at k : ℕ) (r : Result T E) (m s m' s' : Seen) → 0 < k → CopiesChunk state m s at k r m' s' → Copy state at k r m s m' s'
Copy-chunk state at k r m s m' s' some c = elim (cases_eq state 0) [
  | inl is ↦ subst (λ (j : ℕ). Copy j at k r m s m' s') (sym is) (Copy-to_shadow at k r m s m' s' some (c.to_shadow is))
  | inr no_0 ↦ elim (cases_eq state 3) [
    | inl is ↦ subst (λ (j : ℕ). Copy j at k r m s m' s') (sym is) (Copy-to_master at k r m s m' s' some (c.to_master is))
    | inr no_3 ↦
        let none = c.nothing no_0 no_3 in
        subst (λ (d : Seen). Copy state at k r m s d s') (sym none.master_same)
        (subst (λ (d : Seen). Copy state at k r m s m d) (sym none.shadow_same) (Copy-nothing state at k r m s no_0 no_3 none.ok))
  ]
]

-- the same where the state and the place are told by other words
pub Copy-there : {T E : Type 0} (state at k state' at' k' : ℕ) (r : Result T E) (m s m' s' : Seen) → state ≡ state' → at ≡ at' → k ≡ k' → 0 < k → CopiesChunk state m s at k r m' s' → Copy state' at' k' r m s m' s'
Copy-there state at k state' at' k' r m s m' s' a b c some copies =
    subst (λ (i : ℕ). Copy i at' k' r m s m' s') a
    (subst (λ (i : ℕ). Copy state i k' r m s m' s') b
    (subst (λ (i : ℕ). Copy state at i r m s m' s') c (Copy-chunk state at k r m s m' s' some copies)))

-- the disk that is there has room
pub room_there : (X : Option Seen) (n : ℕ) → IsTrue (is_some X) → ((d : Seen) → X ≡ Some d → n ≤ d.size) → n ≤ (disk_of X).size
room_there None n there room = absurd (false≢true there)
room_there (Some d) n there room = room d refl
