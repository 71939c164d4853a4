-- The block with the state of a chunk is written.
use Rattle.std.proofs.Common.{◌≡◌, ◌≢◌, inl, inr, ℕ, ◌+◌, ◌*◌, ◌/◌, ◌%◌, ◌<◌, List, length, set, take, drop, Result, Ok, Err, refl, sym, ◌∙◌, ap, subst, arith}
use Rattle.avs_seg.specs.Image.{Image, ChangesWithin}
use Rattle.avs_seg.proofs.Ranges.{length-range}
use Rattle.avs_dev.specs.Seen.{IsTold}
use Rattle.avs_dev.specs.Memory.{counted}
use Rattle.avs_dev.proofs.Going.{goes_ok, goes_err}
use Rattle.avs_flip.specs.Areas.{Areas, live, live_from}
use Rattle.avs_flip.specs.Changes.{PutsLive}
use Rattle.avs_chunks.specs.States.{state_in}
use Rattle.avs_chunks.specs.Steps.{HasStates, SetsState, PutsState}
use Rattle.avs_chunks.proofs.Quarters.{has_states}

length-live : (a : Areas) → length (live a) ≡ a.len
unfolding live
length-live a = length-range _ _ _

module _ (old new : Areas) (memory block start : List ℕ) (c s : ℕ) (inside : c < 2048 * old.len) (one : length block ≡ 512)
    (is : start ≡ take 512 (drop (512 * (c / 2048)) memory)) (now : state_in block (c % 2048) ≡ s)
    (others : (d : ℕ) → d ≢ c % 2048 → state_in block d ≡ state_in start d) where
  has : live new ≡ set (live old) (c / 2048) block → HasStates memory (live old) (live new) c s
  has done = subst (λ (l : Image). HasStates memory (live old) l c s) (sym done) (has_states memory (live old) block start c s (omega (arith, length-live old)) is now others)

  width : {S F : Type 0} (q : Result S F) → PutsLive old (c / 2048) block q new → IsTold old.disk → ChangesWithin (live_from old + c / 2048) 1 old.disk.image new.disk.image
  width q p told = subst (λ (n : ℕ). ChangesWithin (live_from old + c / 2048) n old.disk.image new.disk.image) (ap (λ (n : ℕ). n / 512) one) (p.writes.within told)

  by_ok : {T E S F : Type 0} (y : T) (z : S) (M : List ℕ) → PutsLive {E = F} old (c / 2048) block (Ok z) new → SetsState memory M c s → length M ≡ length memory → PutsState {E = E} old memory c s (Ok y) new M
  by_ok y z M p sets len = record {
    place = p.place;
    len = len;
    goes = goes_ok old.disk new.disk z y p.writes.goes;
    counted = p.writes.counted ∙ ap (λ (n : ℕ). counted old.disk.written n) (ap (λ (n : ℕ). n / 512) one);
    uncounted = tt;
    staged = p.kept;
    within = width (Ok z) p;
    done = λ told. has ((p.sets told).done);
    failed = λ _. tt;
    set = sets;
    unset = tt;
  }

  pub PutsState-ok : {T E S F : Type 0} (y : T) (q : Result S F) (x : S) (M : List ℕ) → q ≡ Ok x → PutsLive old (c / 2048) block q new → SetsState memory M c s → length M ≡ length memory → PutsState {E = E} old memory c s (Ok y) new M
  PutsState-ok {S = S} {F = F} y q x M was p sets len = by_ok y x M (subst (λ (r : Result S F). PutsLive old (c / 2048) block r new) was p) sets len

  by_err : {T E S F : Type 0} (e : E) (z : F) → PutsLive {T = S} old (c / 2048) block (Err z) new → PutsState {T = T} old memory c s (Err e) new memory
  by_err e z p = record {
    place = p.place;
    len = refl;
    goes = goes_err old.disk new.disk z e p.writes.goes;
    counted = tt;
    uncounted = p.writes.uncounted;
    staged = p.kept;
    within = width (Err z) p;
    done = λ _. tt;
    failed = λ told. elim ((p.sets told).failed) [
      | inl same ↦ inl same
      | inr set ↦ inr (has set)
    ];
    set = tt;
    unset = refl;
  }

  pub PutsState-err : {T E S F : Type 0} (e : E) (q : Result S F) (x : F) → q ≡ Err x → PutsLive old (c / 2048) block q new → PutsState {T = T} old memory c s (Err e) new memory
  PutsState-err {S = S} {F = F} e q x was p = by_err e x (subst (λ (r : Result S F). PutsLive old (c / 2048) block r new) was p)
