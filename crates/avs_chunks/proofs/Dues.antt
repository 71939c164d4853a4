-- Chunks that are to be copied, and those that are known to need no copy.
use Rattle.std.proofs.Common.{◌≡◌, ◌≢◌, ◌⊎◌, inl, inr, ℕ, ◌<◌, Bool, true, false, eqb, List, Option, None, Some, Result, Ok, Err, refl, sym, ◌∙◌, ap, subst, arith}
use Rattle.std.specs.Option.{unwrap_or}
use Rattle.std.proofs.lemmas.Bool.{cases_eq, false≢true}
use Rattle.avs_dev.specs.Seen.{Seen}
use Rattle.avs_dev.proofs.Going.{all_err}
use Rattle.avs_flip.specs.Areas.{Areas}
use Rattle.avs_model.specs.declared.shadow.Kind.{Kind}
use Rattle.avs_model.specs.declared.shadow.Kind.TheVariants.{Ind, Dep, Compact}
use Rattle.avs_chunks.specs.States.{on_both, split, state_in}
use Rattle.avs_chunks.specs.Due.{is_independent, is_due, NoneDue}
use Rattle.avs_chunks.specs.declared.counting.Counts.{Counts}
use Rattle.avs_chunks.specs.Counted.{AreCounted}
use Rattle.avs_chunks.specs.ChunkSet.{ChunkSet, chunks_of, state_of, IsSettled}
use Rattle.avs_chunks.specs.Disks.{disk_at}
use Rattle.avs_chunks.specs.Copying.{FindsDue, CopiesOne}
use Rattle.avs_chunks.specs.Calls.{Settles}
use Rattle.avs_chunks.specs.Steps.{SetsState, PutsState}
use Rattle.avs_chunks.proofs.Quarters.{quarter_small}
use Rattle.avs_chunks.proofs.Counts.{count_none}
use Rattle.avs_chunks.proofs.Counted.{none_in}

-- ---- a state that needs no copy

pub not_due : (b : Bool) (state : ℕ) → (state ≡ split) ⊎ (state ≡ on_both) → is_due b state ≡ false
not_due true state (inl is) = ap (λ (n : ℕ). is_due true n) is
not_due false state (inl is) = ap (λ (n : ℕ). is_due false n) is
not_due true state (inr is) = ap (λ (n : ℕ). is_due true n) is
not_due false state (inr is) = ap (λ (n : ℕ). is_due false n) is

which : (state : ℕ) → state < 4 → state ≢ 0 → state ≢ 3 → (state ≡ on_both) ⊎ (state ≡ split)
which state small a b = elim (cases_eq state 1) [
  | inl one ↦ inl one
  | inr c ↦ inr (omega (arith, small, a, b, c))
]

apart : (state : ℕ) → (state ≡ on_both) ⊎ (state ≡ split) → (eqb state 0 ≡ false) × (eqb state 3 ≡ false)
apart state (inl is) = (ap (λ (n : ℕ). eqb n 0) is, ap (λ (n : ℕ). eqb n 3) is)
apart state (inr is) = (ap (λ (n : ℕ). eqb n 0) is, ap (λ (n : ℕ). eqb n 3) is)

state_small : (bytes : List ℕ) (c : ℕ) → state_in bytes c < 4
unfolding state_in
state_small bytes c = quarter_small _ _

-- ---- the chunks below one

pub none_below : (states : ℕ → ℕ) (b : Bool) (n : ℕ) (due : Option ℕ) → FindsDue states b n due → NoneDue states b (unwrap_or due n)
none_below states b n None finds = record { each = λ c lt. finds.none c lt }
none_below states b n (Some due) finds = record { each = λ c lt. finds.least c lt }

none_set : (b : Bool) (old new : List ℕ) (low chunk state : ℕ) → (state ≡ split) ⊎ (state ≡ on_both) → SetsState old new chunk state → NoneDue (state_in old) b low → NoneDue (state_in new) b low
none_set b old new low chunk state target sets none = record {
  each = λ c lt. elim (cases_eq c chunk) [
    | inl same ↦ ap (λ (k : ℕ). is_due b (state_in new k)) same ∙ ap (λ (n : ℕ). is_due b n) sets.now ∙ not_due b state target
    | inr other ↦ ap (λ (n : ℕ). is_due b n) (sets.others c other) ∙ none.each c lt
  ];
}

pub none_put : {T E : Type 0} (b : Bool) (a : Areas) (old : List ℕ) (low chunk state : ℕ) (r : Result T E) (a' : Areas) (new : List ℕ) → (state ≡ split) ⊎ (state ≡ on_both) → PutsState a old chunk state r a' new → NoneDue (state_in old) b low → NoneDue (state_in new) b low
none_put b a old low chunk state (Ok x) a' new target puts none = none_set b old new low chunk state target puts.set none
none_put b a old low chunk state (Err e) a' new target puts none = subst (λ (l : List ℕ). NoneDue (state_in l) b low) (sym puts.unset) none

-- ---- a set that is settled

kind_is : (k : Kind) → is_independent k ≡ true → k ≡ Ind
kind_is Ind is = refl
kind_is Dep is = absurd (false≢true is)
kind_is Compact is = absurd (false≢true is)

pub settled_yes : (s : ChunkSet) (counts : Counts) → is_independent s.kind ≡ true → AreCounted (state_of s) (chunks_of s) counts → counts.alone ≡ 0 → counts.back ≡ 0 → IsSettled s
settled_yes s counts independent p alone back = record {
  kind = kind_is s.kind independent;
  settled = λ c lt. which (state_of s c) (state_small s.memory c) (none_in (state_of s) (chunks_of s) c 0 lt (sym alone ∙ p.alone)) (none_in (state_of s) (chunks_of s) c 3 lt (sym back ∙ p.back));
}

pub settled_no : (s : ChunkSet) (counts : Counts) → AreCounted (state_of s) (chunks_of s) counts → IsSettled s → (counts.alone ≡ 0) × (counts.back ≡ 0)
settled_no s counts p settled = (
  p.alone ∙ count_none (λ (c : ℕ). eqb (state_of s c) 0) (chunks_of s) (λ c lt. (apart (state_of s c) (settled.settled c lt)).0),
  p.back ∙ count_none (λ (c : ℕ). eqb (state_of s c) 3) (chunks_of s) (λ c lt. (apart (state_of s c) (settled.settled c lt)).1),
)

pub independent_kind : (s : ChunkSet) → IsSettled s → is_independent s.kind ≡ true
independent_kind s settled = ap is_independent settled.kind

-- ---- a copy step that stops

pub copies_fail : {T' E E' : Type 0} (s s' : ChunkSet) (m m' : Seen) (chunk : ℕ) (e : E) (e' : E') (q : Result T' E') → q ≡ Err e' → FindsDue (state_of s) (is_independent s.kind) (chunks_of s) (Some chunk) → Settles s m chunk on_both q s' m' → CopiesOne s m (Err e) s' m'
copies_fail {T'} {E} {E'} s s' m m' chunk e e' q is finds settles =
    let p = subst (λ (r : Result T' E'). Settles s m chunk on_both r s' m') is settles in
    record {
      due = Some chunk;
      finds = finds;
      copies = (
        record {
          keeps = record { shape = p.keeps.shape; goes = all_err (disk_at s m) (disk_at s' m') e' e p.keeps.goes; bitmap = p.keeps.bitmap; behind = p.keeps.behind; blocks = p.keeps.blocks };
          done = λ kn. tt;
          stopped = p.stopped;
          known = λ kn. tt;
          memory = tt;
          unset = p.unset;
          adds = record { done = tt; most = p.adds.most };
        },
        tt,
      );
    }
