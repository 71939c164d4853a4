-- Counts of written blocks, of one call after another, and of the two writes of a group itself.
use Rattle.std.proofs.Common.{◌≡◌, ◌≢◌, ◌⊎◌, inl, inr, ℕ, suc, ◌+◌, ◌/◌, ◌<◌, ◌≤◌, Bool, true, false, not, cond, eqb, Option, Some, List, [], ◌∷◌, ◌++◌, length, filter, Result, Ok, Err, OnOk, OnErr, ◌∙◌, sym, refl, ap, subst, arith}
use Rattle.std.specs.List.{sum_by}
use Rattle.std.proofs.lemmas.Bool.{cases_eq, eq-eqb, ne_eqb}
use Rattle.std.proofs.lemmas.Result.{on_ok_weaker}
use Rattle.std.proofs.lemmas.List.{append_assoc}
use Rattle.std.proofs.lemmas.List.Sums.{sum_by-append, sum_by-cons}
use Rattle.std.proofs.lemmas.List.Elements.{filter-append}
use Rattle.avs_seg.specs.Image.{blocks_of}
use Rattle.avs_seg.specs.Staged.{run}
use Rattle.avs_seg.proofs.Bytes.{length-blocks_of}
use Rattle.avs_dev.specs.Seen.{Seen, Writes}
use Rattle.avs_dev.specs.Devices.{raised}
use Rattle.avs_dev.specs.Memory.{counted}
use Rattle.avs_model.specs.ShadowSets.{is_compact}
use Rattle.avs_model.specs.GroupStates.{GroupState}
use Rattle.avs_model.specs.GroupStages.{GroupStage, PutVolume, after_stage, in_group}
use Rattle.avs_model.specs.GroupWork.{GroupSpot, StateDisk, VolumeDisk, ShadowDisk, BitmapDisk, OverDisk, Work, work, work_of, on, same_spot, blocks_on_spot}
use Rattle.avs_model.specs.declared.shadow.Kind.{Kind}
use Rattle.avs_sets.specs.Says.{BlockSays}
use Rattle.avs_sets.specs.Sets.{SetSeen, disk_of}
use Rattle.avs_sets.specs.Meaning.{GroupSeen, set_of, set_in, disk_in, disk_at, meaning}
use Rattle.avs_sets.specs.Goes.{IsSameSet, Stays, Commits}
use Rattle.avs_sets.specs.Steps.{OnlyDisk}
use Rattle.avs_sets.specs.Counting.{is_exact, CountsWork, CountsStages}
use Rattle.avs_sets.proofs.Lifted.{number_is}

-- ---- counts raised

raised-none : (w k : ℕ) → k ≡ 0 → raised w k ≡ w
raised-none w k none = ap (λ (b : Bool). cond b w (counted w k)) (eq-eqb k 0 none)

raised-some : (w k : ℕ) → k ≢ 0 → raised w k ≡ counted w k
raised-some w k some = ap (λ (b : Bool). cond b w (counted w k)) (ne_eqb k 0 some)

raised-then : (w a b : ℕ) → raised (raised w a) b ≡ raised w (a + b)
raised-then w a b = elim (cases_eq b 0) [
  | inl none ↦ raised-none (raised w a) b none ∙ ap (λ (k : ℕ). raised w k) (let e : a ≡ a + b = omega (arith, none) in e)
  | inr some ↦ elim (cases_eq a 0) [
    | inl none ↦ ap (λ (v : ℕ). raised v b) (raised-none w a none) ∙ ap (λ (k : ℕ). raised w k) (let e : b ≡ a + b = omega (arith, none) in e)
    | inr more ↦
        raised-some (raised w a) b some
        ∙ ap (λ (v : ℕ). counted v b) (raised-some w a more)
        ∙ (let e : counted (counted w a) b ≡ counted w (a + b) = omega arith in e)
        ∙ sym (raised-some w (a + b) (λ z. more (omega (arith, z))))
  ]
]

-- ---- the work of stages, one after another

pub blocks_append : (xs ys : List (Work GroupSpot)) (spot : GroupSpot) → blocks_on_spot (xs ++ ys) spot ≡ blocks_on_spot xs spot + blocks_on_spot ys spot
blocks_append xs ys spot =
    ap (λ (l : List (Work GroupSpot)). sum_by (λ one. one.blocks) l) (filter-append (λ one. same_spot one.disk spot) xs ys)
    ∙ sum_by-append (λ one. one.blocks) (filter (λ one. same_spot one.disk spot) xs) (filter (λ one. same_spot one.disk spot) ys)

pub work_append : (group : GroupState) (xs ys : List GroupStage) → work_of group (xs ++ ys) ≡ work_of group xs ++ work_of (run in_group group xs) ys
work_append group [] ys = refl
work_append group (x ∷ xs) ys =
    ap (λ (l : List (Work GroupSpot)). work group x ++ l) (work_append (after_stage group x) xs ys)
    ∙ sym (append_assoc (work group x) (work_of (after_stage group x) xs) (work_of (run in_group (after_stage group x) xs) ys))

-- ---- calls

-- the same disks count exactly behind a call
kind_in : (S T : List SetSeen) → length T ≡ length S → ((k : ℕ) → k < length S → IsSameSet (set_of S k) (set_of T k)) → (slot : ℕ) → (set_in T slot).kind ≡ (set_in S slot).kind
kind_in [] [] long same slot = refl
kind_in [] (t ∷ T) long same slot = absurd (none (length T) long)
  where
    none : (n : ℕ) → suc n ≡ 0 → ⊥
    none n e = omega (arith, e)
kind_in (s ∷ S) [] long same slot = absurd (none (length S) long)
  where
    none : (n : ℕ) → 0 ≡ suc n → ⊥
    none n e = omega (arith, e)
kind_in (s ∷ S) (t ∷ T) long same slot =
    ap (λ (n : ℕ). (cond (eqb n slot) t (set_in T slot)).kind) (same 0 (omega arith)).slot
    ∙ go (kind_in S T (less (length T) (length S) long) (λ k lt. same (suc k) (omega (arith, lt))) slot) (eqb s.slot slot)
  where
    less : (m n : ℕ) → suc m ≡ suc n → m ≡ n
    less m n e = omega (arith, e)

    go : (set_in T slot).kind ≡ (set_in S slot).kind → (b : Bool) → (cond b t (set_in T slot)).kind ≡ (cond b s (set_in S slot)).kind
    go rest true = (same 0 (omega arith)).kind
    go rest false = rest

pub exact_same : (a b : GroupSeen) → Stays a b → (spot : GroupSpot) → is_exact b spot ≡ is_exact a spot
exact_same a b stays StateDisk = refl
exact_same a b stays (VolumeDisk v) = refl
exact_same a b stays (ShadowDisk slot) = ap (λ (kind : Kind). not (is_compact kind)) (kind_in a.sets b.sets stays.sets stays.each slot)
exact_same a b stays (BitmapDisk slot) = refl
exact_same a b stays (OverDisk o) = refl

pub counts_nothing : {T E : Type 0} (a : GroupSeen) (x : T) → CountsWork {E = E} a [] (Ok x) a
counts_nothing a x = record { done = λ spot is. sym (raised-none (disk_at a spot).written 0 refl); most = λ spot. omega arith }

-- one call after another
pub counts_then : {T E U G : Type 0} (a b c : GroupSeen) (v w : List (Work GroupSpot)) (x : T) (r : Result U G) → Stays a b → CountsWork {E = E} a v (Ok x) b → CountsWork b w r c → CountsWork a (v ++ w) r c
counts_then {E = E} {U = U} {G = G} a b c v w x r stays f g = record {
  done = go r g.done;
  most = λ spot. sums _ _ _ _ _ _ (f.most spot) (g.most spot) (blocks_append v w spot);
}
  where
    sums : (n m o k l t : ℕ) → m ≤ n + k → o ≤ m + l → t ≡ k + l → o ≤ n + t
    sums n m o k l t p q e = omega (arith, p, q, e)

    go : (q : Result U G) → OnOk q ((spot : GroupSpot) → is_exact b spot ≡ true → (disk_at c spot).written ≡ raised (disk_at b spot).written (blocks_on_spot w spot))
        → OnOk q ((spot : GroupSpot) → is_exact a spot ≡ true → (disk_at c spot).written ≡ raised (disk_at a spot).written (blocks_on_spot (v ++ w) spot))
    go (Ok y) done = λ spot is.
        done spot (exact_same a b stays spot ∙ is)
        ∙ ap (λ (n : ℕ). raised n (blocks_on_spot w spot)) (f.done spot is)
        ∙ raised-then (disk_at a spot).written (blocks_on_spot v spot) (blocks_on_spot w spot)
        ∙ ap (λ (n : ℕ). raised (disk_at a spot).written n) (sym (blocks_append v w spot))
    go (Err e) done = tt

-- where a call fails, no more is written than all would
pub counts_stops : {T E U G : Type 0} (a b : GroupSeen) (v w : List (Work GroupSpot)) (e : E) (e' : G) → CountsWork {T = T} a v (Err e) b → CountsWork {T = U} a (v ++ w) (Err e') b
counts_stops a b v w e e' f = record { done = tt; most = λ spot. more _ _ _ _ _ (f.most spot) (blocks_append v w spot) }
  where
    more : (n m k l t : ℕ) → m ≤ n + k → t ≡ k + l → m ≤ n + t
    more n m k l t p e = omega (arith, p, e)

-- and so of stages: those behind are counted from the state that the first leave
pub stages_then : {T E U G : Type 0} (a b c : GroupSeen) (xs ys : List GroupStage) (x : T) (r : Result U G) → Stays a b → meaning b ≡ run in_group (meaning a) xs
    → CountsStages {E = E} a xs (Ok x) b → CountsStages b ys r c → CountsStages a (xs ++ ys) r c
stages_then a b c xs ys x r stays is f g =
    subst (λ (l : List (Work GroupSpot)). CountsWork a l r c) (sym (work_append (meaning a) xs ys))
    (counts_then a b c (work_of (meaning a) xs) (work_of (run in_group (meaning a) xs) ys) x r stays f (subst (λ (m : GroupState). CountsWork b (work_of m ys) r c) is g))

pub stages_stop : {T E U G : Type 0} (a b : GroupSeen) (xs ys : List GroupStage) (e : E) (e' : G) → CountsStages {T = T} a xs (Err e) b → CountsStages {T = U} a (xs ++ ys) (Err e') b
stages_stop {U = U} a b xs ys e e' f =
    subst (λ (l : List (Work GroupSpot)). CountsWork {T = U} a l (Err e') b) (sym (work_append (meaning a) xs ys))
    (counts_stops a b (work_of (meaning a) xs) (work_of (run in_group (meaning a) xs) ys) e e' f)

-- ---- the writes of a group itself

on_one : (d : GroupSpot) (n : ℕ) (spot : GroupSpot) (b : Bool) → same_spot d spot ≡ b → blocks_on_spot (record { disk = d; blocks = n } ∷ []) spot ≡ cond b n 0
on_one d n spot b is = ap (λ (x : Bool). sum_by (λ (one : Work GroupSpot). one.blocks) (cond x (record { disk = d; blocks = n } ∷ []) [])) is ∙ go b
  where
    go : (x : Bool) → sum_by (λ (one : Work GroupSpot). one.blocks) (cond x (record { disk = d; blocks = n } ∷ []) []) ≡ cond x n 0
    go true = sum_by-cons (λ (one : Work GroupSpot). one.blocks) (record { disk = d; blocks = n }) [] ∙ (let e : n + 0 ≡ n = omega arith in e)
    go false = refl

-- so many blocks are written on one disk, and nothing on any other
module _ (a b : GroupSeen) (d : GroupSpot) (n : ℕ) {T E : Type 0} (r : Result T E) (some : 0 < n)
    (which : (spot : GroupSpot) → ((same_spot d spot ≡ true) × (spot ≡ d)) ⊎ ((same_spot d spot ≡ false) × (disk_at b spot ≡ disk_at a spot)))
    (done : OnOk r ((disk_at b d).written ≡ counted (disk_at a d).written n)) (most : OnErr r ((disk_at b d).written ≡ (disk_at a d).written)) where
  abbrev works : List (Work GroupSpot)
  works = record { disk = d; blocks = n } ∷ []

  other : (spot : GroupSpot) → same_spot d spot ≡ false → disk_at b spot ≡ disk_at a spot → (disk_at b spot).written ≡ raised (disk_at a spot).written (blocks_on_spot works spot)
  other spot aside same = ap (λ (x : Seen). x.written) same ∙ sym (raised-none (disk_at a spot).written (blocks_on_spot works spot) (on_one d n spot false aside))

  own : (spot : GroupSpot) → same_spot d spot ≡ true → spot ≡ d → (disk_at b d).written ≡ counted (disk_at a d).written n → (disk_at b spot).written ≡ raised (disk_at a spot).written (blocks_on_spot works spot)
  own spot here is w =
      ap (λ (x : GroupSpot). (disk_at b x).written) is ∙ w ∙ sym (raised-some (disk_at a d).written n (λ z. omega (arith, z, some)))
      ∙ ap (λ (x : GroupSpot). raised (disk_at a x).written n) (sym is)
      ∙ ap (λ (m : ℕ). raised (disk_at a spot).written m) (sym (on_one d n spot true here))

  at_most : (w k : ℕ) → raised w k ≤ w + k
  at_most w k = elim (cases_eq k 0) [
    | inl none ↦ subst (λ (v : ℕ). v ≤ w + k) (sym (raised-none w k none)) (omega arith)
    | inr more ↦ subst (λ (v : ℕ). v ≤ w + k) (sym (raised-some w k more)) (omega arith)
  ]

  each : (q : Result T E) → OnOk q ((disk_at b d).written ≡ counted (disk_at a d).written n) → OnErr q ((disk_at b d).written ≡ (disk_at a d).written) → CountsWork a works q b
  each (Ok x) w u =
      let all : (spot : GroupSpot) → (disk_at b spot).written ≡ raised (disk_at a spot).written (blocks_on_spot works spot) = λ spot. elim (which spot) [ inl (here, is) ↦ own spot here is w | inr (aside, same) ↦ other spot aside same ] in
      record { done = λ spot is. all spot; most = λ spot. subst (λ (m : ℕ). m ≤ (disk_at a spot).written + blocks_on_spot works spot) (sym (all spot)) (at_most _ _) }
  each (Err e) w u = record {
    done = tt;
    most = λ spot. elim (which spot) [
      | inl (here, is) ↦ less _ _ _ (ap (λ (x : GroupSpot). (disk_at b x).written) is ∙ u ∙ ap (λ (x : GroupSpot). (disk_at a x).written) (sym is))
      | inr (aside, same) ↦ less _ _ _ (ap (λ (x : Seen). x.written) same)
    ];
  }
    where
      less : (m n k : ℕ) → m ≡ n → m ≤ n + k
      less m n k e = omega (arith, e)

  pub counts_one : CountsWork a works r b
  counts_one = each r done most

-- blocks of a volume are written
pub put_counts : (g : GroupSeen) (v : ℕ) (V : List (Option Seen)) → OnlyDisk g.volumes V (Some v) → (at : ℕ) (bytes : List ℕ) {T E : Type 0} (r : Result T E)
    → Writes (disk_in g.volumes v) at bytes r (disk_in V v) → 0 < length bytes / 512 → CountsStages g (PutVolume v at (blocks_of bytes) ∷ []) r (record g { volumes = V })
put_counts g v V only at bytes r wr some = counts_one g (record g { volumes = V }) (VolumeDisk v) (length (blocks_of bytes)) r (omega (arith, some, length-blocks_of bytes)) which
    (on_ok_weaker r (λ is. is ∙ ap (λ (n : ℕ). counted (disk_in g.volumes v).written n) (sym (length-blocks_of bytes))) wr.counted) wr.uncounted
  where
    which : (spot : GroupSpot) → ((same_spot (VolumeDisk v) spot ≡ true) × (spot ≡ VolumeDisk v)) ⊎ ((same_spot (VolumeDisk v) spot ≡ false) × (disk_at (record g { volumes = V }) spot ≡ disk_at g spot))
    which StateDisk = inr (refl, refl)
    which (VolumeDisk w) = elim (cases_eq v w) [
      | inl same ↦ inl (eq-eqb v w same, ap (λ (x : ℕ). VolumeDisk x) (sym same))
      | inr ne ↦ inr (ne_eqb v w ne, ap (λ (o : Option Seen). disk_of o) (only.others w (λ e. ne (sym (number_is w v e)))))
    ]
    which (ShadowDisk slot) = inr (refl, refl)
    which (BitmapDisk slot) = inr (refl, refl)
    which (OverDisk o) = inr (refl, refl)

-- the block of the group is written
pub commit_counts : (g : GroupSeen) (block : BlockSays) {T E : Type 0} (r : Result T E) (new : GroupSeen) → Commits g block r new → CountsWork g (on StateDisk 1) r new
commit_counts g block r new cm = subst (λ (x : GroupSeen). CountsWork g (on StateDisk 1) r x) (sym cm.rest)
    (counts_one g (record g { state = new.state; says = new.says; memory = new.memory }) StateDisk 1 r (omega arith) which cm.counted cm.uncounted)
  where
    which : (spot : GroupSpot) → ((same_spot StateDisk spot ≡ true) × (spot ≡ StateDisk)) ⊎ ((same_spot StateDisk spot ≡ false) × (disk_at (record g { state = new.state; says = new.says; memory = new.memory }) spot ≡ disk_at g spot))
    which StateDisk = inl (refl, refl)
    which (VolumeDisk v) = inr (refl, refl)
    which (ShadowDisk slot) = inr (refl, refl)
    which (BitmapDisk slot) = inr (refl, refl)
    which (OverDisk o) = inr (refl, refl)
