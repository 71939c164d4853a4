-- The lists of a set after a row of its chunks was written.
use Rattle.std.proofs.Common.{◌≡◌, inl, inr, ℕ, zero, suc, ◌+◌, ◌≤◌, Bool, not, cond, eqb, ◌||◌, ◌&&◌, List, [], ◌∷◌, ◌++◌, map, ◌∙◌, sym, refl, ap, subst, arith}
use Rattle.std.specs.List.{range_with_len}
use Rattle.std.proofs.Math.Path.{fun_ext}
use Rattle.std.proofs.lemmas.Bool.{eq-eqb}
use Rattle.std.proofs.lemmas.Bool.Decides.{nat_tests}
use Rattle.avs_seg.specs.Image.{Image, is_inside}
use Rattle.avs_model.specs.declared.shadow.Kind.{Kind}
use Rattle.avs_model.specs.declared.shadow.Kind.TheVariants.{Ind, Dep, Compact}
use Rattle.avs_model.specs.Shadows.{ChunkList, with_chunk, without_chunk, Online, ShadowState, GroupState, touched_with, lists_written, chunk_written, GroupStage, Mark, after_stage, after_stages, StoppedIn}

-- a list with a row of chunks, and without it
abbrev pub with_row : ChunkList → ℕ → ℕ → ChunkList
with_row list first n chunk = is_inside first n chunk || list chunk

abbrev pub without_row : ChunkList → ℕ → ℕ → ChunkList
without_row list first n chunk = not (is_inside first n chunk) && list chunk

abbrev pub touched_row : Kind → ChunkList → ℕ → ℕ → ChunkList
touched_row Ind touched first n = touched
touched_row Dep touched first n = with_row touched first n
touched_row Compact touched first n = with_row touched first n

abbrev pub row_written : ShadowState → ℕ → ℕ → ShadowState
row_written set first n = record set {
  touched = touched_row set.kind set.touched first n;
  moved = with_row set.moved first n;
  left = without_row set.left first n;
  back = without_row set.back first n;
}

-- ---- no chunk

with_none : (list : ChunkList) (first : ℕ) → with_row list first 0 ≡ list
with_none list first = fun_ext (λ c. none c)
  where
    none : (c : ℕ) → (is_inside first 0 c || list c) ≡ list c
    none c = grind (arith, nat_tests)

without_none : (list : ChunkList) (first : ℕ) → without_row list first 0 ≡ list
without_none list first = fun_ext (λ c. none c)
  where
    none : (c : ℕ) → (not (is_inside first 0 c) && list c) ≡ list c
    none c = grind (arith, nat_tests)

touched_none : (kind : Kind) (list : ChunkList) (first : ℕ) → touched_row kind list first 0 ≡ list
touched_none Ind list first = refl
touched_none Dep list first = with_none list first
touched_none Compact list first = with_none list first

pub row_none : (set : ShadowState) (first : ℕ) → row_written set first 0 ≡ set
row_none set first = λ i. record set {
  touched = touched_none set.kind set.touched first i;
  moved = with_none set.moved first i;
  left = without_none set.left first i;
  back = without_none set.back first i;
}

-- ---- one chunk more, before the others

with_more : (list : ChunkList) (first n : ℕ) → with_row (with_chunk list first) (first + 1) n ≡ with_row list first (suc n)
with_more list first n = fun_ext (λ c. more c)
  where
    more : (c : ℕ) → (is_inside (first + 1) n c || (eqb c first || list c)) ≡ (is_inside first (suc n) c || list c)
    more c = grind (arith, nat_tests)

without_more : (list : ChunkList) (first n : ℕ) → without_row (without_chunk list first) (first + 1) n ≡ without_row list first (suc n)
without_more list first n = fun_ext (λ c. more c)
  where
    more : (c : ℕ) → (not (is_inside (first + 1) n c) && (not (eqb c first) && list c)) ≡ (not (is_inside first (suc n) c) && list c)
    more c = grind (arith, nat_tests)

touched_more : (kind : Kind) (list : ChunkList) (first n : ℕ) → touched_row kind (touched_with kind list first) (first + 1) n ≡ touched_row kind list first (suc n)
touched_more Ind list first n = refl
touched_more Dep list first n = with_more list first n
touched_more Compact list first n = with_more list first n

row_more : (set : ShadowState) (first n : ℕ) → row_written (lists_written set first) (first + 1) n ≡ row_written set first (suc n)
row_more set first n = λ i. record set {
  touched = touched_more set.kind set.touched first n i;
  moved = with_more set.moved first n i;
  left = without_more set.left first n i;
  back = without_more set.back first n i;
}

-- ---- the stages of a row

-- a group with one set
abbrev pub with_one : List Image → ShadowState → List ℕ → GroupState
with_one volumes set note = record { volumes = volumes; sets = set ∷ []; note = note }

abbrev pub row_marks : ℕ → ℕ → ℕ → List GroupStage
row_marks slot first n = map (λ chunk. Mark slot chunk) (range_with_len first n)

written_online : (set : ShadowState) (chunk : ℕ) → set.standing ≡ Online → chunk_written set chunk ≡ lists_written set chunk
written_online set chunk online = rw online refl

module _ (volumes : List Image) (note : List ℕ) where
  mark_one : (set : ShadowState) (chunk : ℕ) → set.standing ≡ Online → after_stage (with_one volumes set note) (Mark set.slot chunk) ≡ with_one volumes (lists_written set chunk) note
  mark_one set chunk online = ap (λ (b : Bool). with_one volumes (cond b (chunk_written set chunk) set) note) (eq-eqb set.slot set.slot refl) ∙ ap (λ (s : ShadowState). with_one volumes s note) (written_online set chunk online)

  pub after_row : (set : ShadowState) (first n : ℕ) → set.standing ≡ Online → after_stages (with_one volumes set note) (row_marks set.slot first n) ≡ with_one volumes (row_written set first n) note
  after_row set first zero online = ap (λ (s : ShadowState). with_one volumes s note) (sym (row_none set first))
  after_row set first (suc n) online =
      ap (λ (g : GroupState). after_stages g (row_marks set.slot (first + 1) n)) (mark_one set first online)
      ∙ after_row (lists_written set first) (first + 1) n online
      ∙ ap (λ (s : ShadowState). with_one volumes s note) (row_more set first n)

-- ---- stages one after another

pub after_append : (g : GroupState) (some more : List GroupStage) → after_stages g (some ++ more) ≡ after_stages (after_stages g some) more
after_append g [] more = refl
after_append g (stage ∷ some) more = after_append (after_stage g stage) some more

-- before the first stage
pub stopped_first : (g : GroupState) (stages : List GroupStage) → StoppedIn g stages g
stopped_first g [] = refl
stopped_first g (stage ∷ stages) = inl refl

-- behind some stages
pub stopped_behind : (g new : GroupState) (some more : List GroupStage) → StoppedIn (after_stages g some) more new → StoppedIn g (some ++ more) new
stopped_behind g new [] more stopped = stopped
stopped_behind g new (stage ∷ some) more stopped = inr (inr (stopped_behind (after_stage g stage) new some more stopped))

-- in the midst of a row
pub stopped_row : (volumes : List Image) (note : List ℕ) (set : ShadowState) (first n k : ℕ) (more : List GroupStage) → set.standing ≡ Online → k ≤ n → StoppedIn (with_one volumes set note) (row_marks set.slot first n ++ more) (with_one volumes (row_written set first k) note)
stopped_row volumes note set first n zero more online le =
    subst (λ (s : ShadowState). StoppedIn (with_one volumes set note) (row_marks set.slot first n ++ more) (with_one volumes s note)) (sym (row_none set first)) (stopped_first (with_one volumes set note) (row_marks set.slot first n ++ more))
stopped_row volumes note set first zero (suc k) more online le = elim (none k le) [ ]
  where
    none : (k : ℕ) → suc k ≤ 0 → ⊥
    none k le = omega arith
stopped_row volumes note set first (suc n) (suc k) more online le =
    let rest = row_marks set.slot (first + 1) n ++ more in
    let next = stopped_row volumes note (lists_written set first) (first + 1) n k more online (omega arith) in
    let next' = subst (λ (s : ShadowState). StoppedIn (with_one volumes (lists_written set first) note) rest (with_one volumes s note)) (row_more set first k) next in
    inr (inr (subst (λ (g : GroupState). StoppedIn g rest (with_one volumes (row_written set first (suc k)) note)) (sym (mark_one volumes note set first online)) next'))
