-- What stands of the three disks after a call, and how counts of blocks add up.
use Rattle.std.proofs.Common.{◌≡◌, ◌≢◌, ◌⊎◌, inl, inr, ℕ, ◌+◌, ◌<◌, ◌≤◌, Bool, cond, eqb, Result, Ok, Err, IsOk, refl, sym, ◌∙◌, ap, subst, arith}
use Rattle.std.proofs.lemmas.Bool.{cases_eq, eq-eqb, false≢true}
use Rattle.std.proofs.lemmas.Bool.Decides.{eqb_tells}
use Rattle.std.proofs.lemmas.Result.{on_ok_weaker, on_err_weaker}
use Rattle.avs_dev.specs.Seen.{Seen, Lasts, IsSpared, GoesOn}
use Rattle.avs_dev.specs.Memory.{counted}
use Rattle.avs_dev.specs.Devices.{AllGoOn}
use Rattle.avs_dev.proofs.Going.{lasts_same, spared_same, all_go}
use Rattle.avs_chunks.specs.Disks.{ChunkDisk, Master, Shadow, Bitmap, three, raised}
use Rattle.avs_chunks.specs.Steps.{BothGoOn}

-- ---- names

-- a name is another or the same
pub master_or : (d : ChunkDisk) → (d ≡ Master) ⊎ (d ≢ Master)
master_or Master = inl refl
master_or Shadow = inr (λ e. cc)
master_or Bitmap = inr (λ e. cc)

pub shadow_or : (d : ChunkDisk) → (d ≡ Shadow) ⊎ (d ≢ Shadow)
shadow_or Master = inr (λ e. cc)
shadow_or Shadow = inl refl
shadow_or Bitmap = inr (λ e. cc)

pub bitmap_or : (d : ChunkDisk) → (d ≡ Bitmap) ⊎ (d ≢ Bitmap)
bitmap_or Master = inr (λ e. cc)
bitmap_or Shadow = inr (λ e. cc)
bitmap_or Bitmap = inl refl

-- one fact for each
pub each_disk : (P : ChunkDisk → Type 0) → P Master → P Shadow → P Bitmap → (d : ChunkDisk) → P d
each_disk P m s b Master = m
each_disk P m s b Shadow = s
each_disk P m s b Bitmap = b

pub three_same : {m s b m' s' b' : Seen} → m' ≡ m → s' ≡ s → b' ≡ b → (d : ChunkDisk) → three m' s' b' d ≡ three m s b d
three_same em es eb Master = em
three_same em es eb Shadow = es
three_same em es eb Bitmap = eb

-- the bitmap's disk alone
pub bitmap_goes : {T E : Type 0} (m s b b' : Seen) (r : Result T E) → GoesOn b r b' → AllGoOn (three m s b) r (three m s b')
bitmap_goes m s b b' r g = all_go (three m s b) (three m s b') Bitmap bitmap_or (λ d ne. other d ne) r g
  where
    other : (d : ChunkDisk) → d ≢ Bitmap → three m s b' d ≡ three m s b d
    other Master ne = refl
    other Shadow ne = refl
    other Bitmap ne = absurd (ne refl)

-- the shadow's disk alone
pub shadow_goes : {T E : Type 0} (m s s' b : Seen) (r : Result T E) → GoesOn s r s' → AllGoOn (three m s b) r (three m s' b)
shadow_goes m s s' b r g = all_go (three m s b) (three m s' b) Shadow shadow_or (λ d ne. other d ne) r g
  where
    other : (d : ChunkDisk) → d ≢ Shadow → three m s' b d ≡ three m s b d
    other Master ne = refl
    other Shadow ne = absurd (ne refl)
    other Bitmap ne = refl

-- the master's and the shadow's
pub both_go : {T E : Type 0} (m s b m' s' : Seen) (r : Result T E) → BothGoOn m s r m' s' → AllGoOn (three m s b) r (three m' s' b)
both_go m s b m' s' (Ok x) g = record {
  lasts = each_disk (λ d. Lasts (three m s b d) (three m' s' b d)) g.first g.second (lasts_same b);
  done = each_disk (λ d. IsSpared (three m s b d) (three m' s' b d)) g.done.0 g.done.1 (spared_same b);
  failed = tt;
}
both_go m s b m' s' (Err e) g = record {
  lasts = each_disk (λ d. Lasts (three m s b d) (three m' s' b d)) g.first g.second (lasts_same b);
  done = tt;
  failed = elim g.failed [
    | inl p ↦ record { name = Master; failed = p.0; others = each_disk (λ d. d ≢ Master → IsSpared (three m s b d) (three m' s' b d)) (λ ne. absurd (ne refl)) (λ ne. p.1) (λ ne. spared_same b) }
    | inr p ↦ record { name = Shadow; failed = p.1; others = each_disk (λ d. d ≢ Shadow → IsSpared (three m s b d) (three m' s' b d)) (λ ne. p.0) (λ ne. absurd (ne refl)) (λ ne. spared_same b) }
  ];
}

-- the same of two disks in the other order
pub both_turned : {T E : Type 0} (a b a' b' : Seen) (r : Result T E) → BothGoOn a b r a' b' → BothGoOn b a r b' a'
both_turned a b a' b' r g = record {
  first = g.second;
  second = g.first;
  done = on_ok_weaker r (λ p. (p.1, p.0)) g.done;
  failed = on_err_weaker r (λ e. elim e [ inl p ↦ inr (p.1, p.0) | inr p ↦ inl (p.1, p.0) ]) g.failed;
}

pub both_same : {T E : Type 0} (a b : Seen) (r : Result T E) → IsOk r → BothGoOn a b r a b
both_same a b (Ok x) ok = record { first = lasts_same a; second = lasts_same b; done = (spared_same a, spared_same b); failed = tt }
both_same a b (Err x) ok = absurd (false≢true ok)

-- a read of the first that fails, and one that is followed by a write of the second
pub both_read : {T E : Type 0} (a b a' : Seen) (e : E) → GoesOn {T = T} a (Err e) a' → BothGoOn {T = T} a b (Err e) a' b
both_read a b a' e g = record { first = g.lasts; second = lasts_same b; done = tt; failed = inl (g.failed, spared_same b) }

pub both_then : {T E T' E' : Type 0} (a b a' b' : Seen) (x : T') (r : Result T E) → GoesOn {E = E'} a (Ok x) a' → GoesOn b r b' → BothGoOn a b r a' b'
both_then a b a' b' x (Ok y) g h = record { first = g.lasts; second = h.lasts; done = (g.done, h.done); failed = tt }
both_then a b a' b' x (Err e) g h = record { first = g.lasts; second = h.lasts; done = tt; failed = inr (g.done, h.failed) }

-- ---- counts

pub cond_is : {A : Type 0} (a b : ℕ) (x y : A) → a ≡ b → cond (eqb a b) x y ≡ x
cond_is a b x y is = ap (λ (t : Bool). cond t x y) (eq-eqb a b is)

pub cond_not : {A : Type 0} (a b : ℕ) (x y : A) → a ≢ b → cond (eqb a b) x y ≡ y
cond_not a b x y other = elim (eqb_tells a b) [
  | inl same ↦ absurd (other same.1)
  | inr apart ↦ ap (λ (t : Bool). cond t x y) apart.0
]

pub raised-none : (w k : ℕ) → k ≡ 0 → raised w k ≡ w
raised-none w k none = cond_is k 0 _ _ none

pub raised-some : (w k : ℕ) → 0 < k → raised w k ≡ counted w k
raised-some w k some = cond_not k 0 _ _ (omega arith)

pub raised-then : (w a b : ℕ) → raised (raised w a) b ≡ raised w (a + b)
raised-then w a b = elim (cases_eq b 0) [
  | inl none ↦ raised-none (raised w a) b none ∙ ap (λ (k : ℕ). raised w k) (let e : a ≡ a + b = omega arith in e)
  | inr some ↦ elim (cases_eq a 0) [
    | inl none ↦ ap (λ (v : ℕ). raised v b) (raised-none w a none) ∙ ap (λ (k : ℕ). raised w k) (let e : b ≡ a + b = omega arith in e)
    | inr more ↦
        raised-some (raised w a) b (omega arith)
        ∙ ap (λ (v : ℕ). counted v b) (raised-some w a (omega arith))
        ∙ (let e : counted (counted w a) b ≡ counted w (a + b) = omega arith in e)
        ∙ sym (raised-some w (a + b) (omega arith))
  ]
]

pub raised_most : (w k : ℕ) → raised w k ≤ w + k
raised_most w k = elim (cases_eq k 0) [
  | inl none ↦ subst (λ (v : ℕ). v ≤ w + k) (sym (raised-none w k none)) (omega arith)
  | inr some ↦ subst (λ (v : ℕ). v ≤ w + k) (sym (raised-some w k (omega arith))) (omega arith)
]
