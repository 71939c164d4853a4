-- The block with the entry of a chunk is written.
use Rattle.std.proofs.Common.{◌≡◌, ◌≢◌, inl, inr, ℕ, ◌+◌, ◌*◌, ◌/◌, ◌%◌, ◌<◌, List, [], length, set, take, drop, Result, Ok, Err, refl, sym, ◌∙◌, ap, subst, arith}
use Rattle.std.proofs.lemmas.Grind.{get_or-set_at}
use Rattle.std.proofs.lemmas.List.{get_or-set_other}
use Rattle.avs_seg.specs.Image.{Block, Image, ChangesWithin}
use Rattle.avs_seg.proofs.Ranges.{length-range}
use Rattle.avs_dev.specs.Seen.{IsTold}
use Rattle.avs_dev.specs.Memory.{counted}
use Rattle.avs_dev.proofs.Going.{goes_ok, goes_err}
use Rattle.avs_flip.specs.Areas.{Areas, live, live_from}
use Rattle.avs_flip.specs.Changes.{PutsLive}
use Rattle.avs_entries.specs.Entries.{entry_in, entry_on}
use Rattle.avs_entries.specs.Putting.{HasEntries, PutsEntry, WritesEntry}
use Rattle.avs_entries.proofs.EntryBytes.{entry_of_block}

has_entries : (memory : List ℕ) (old : Image) (block start : List ℕ) (c e : ℕ) → c / 128 < length old
    → start ≡ take 512 (drop (512 * (c / 128)) memory)
    → entry_in block (c % 128) ≡ e → ((d : ℕ) → d ≢ c % 128 → entry_in block d ≡ entry_in start d)
    → HasEntries memory old (set old (c / 128) block) c e
unfolding entry_on
has_entries memory old block start c e inside is now others = record {
  now = ap (λ (b : Block). entry_in b (c % 128)) (get_or-set_at old (c / 128) (c / 128) block [] refl inside) ∙ now;
  near = λ d other here.
      ap (λ (b : Block). entry_in b (d % 128)) (get_or-set_at old (c / 128) (d / 128) block [] here inside)
      ∙ others (d % 128) (omega (arith, other, here))
      ∙ ap (λ (b : Block). entry_in b (d % 128)) is
      ∙ entry_of_block memory (c / 128) d here;
  far = λ d apart. ap (λ (b : Block). entry_in b (d % 128)) (get_or-set_other old (c / 128) (d / 128) block [] apart);
}

length-live : (a : Areas) → length (live a) ≡ a.len
unfolding live
length-live a = length-range _ _ _

module _ (old new : Areas) (memory block start : List ℕ) (c s : ℕ) (inside : c < 128 * old.len) (one : length block ≡ 512)
    (is : start ≡ take 512 (drop (512 * (c / 128)) memory)) (now : entry_in block (c % 128) ≡ s)
    (others : (d : ℕ) → d ≢ c % 128 → entry_in block d ≡ entry_in start d) where
  has : live new ≡ set (live old) (c / 128) block → HasEntries memory (live old) (live new) c s
  has done = subst (λ (l : Image). HasEntries memory (live old) l c s) (sym done) (has_entries memory (live old) block start c s (omega (arith, length-live old)) is now others)

  one_block : counted old.disk.written (length block / 512) ≡ counted old.disk.written 1
  one_block = ap (λ (n : ℕ). counted old.disk.written (n / 512)) one

  width : {S F : Type 0} (q : Result S F) → PutsLive old (c / 128) block q new → IsTold old.disk → ChangesWithin (live_from old + c / 128) 1 old.disk.image new.disk.image
  width q p told = subst (λ (n : ℕ). ChangesWithin (live_from old + c / 128) n old.disk.image new.disk.image) (ap (λ (n : ℕ). n / 512) one) (p.writes.within told)

  by_ok : {T E S F : Type 0} (y : T) (z : S) (M : List ℕ) → PutsLive {E = F} old (c / 128) block (Ok z) new → PutsEntry memory M c s → length M ≡ length memory → WritesEntry {E = E} old memory c s (Ok y) new M
  by_ok y z M p sets len = record {
    place = p.place;
    len = len;
    writes = record { goes = goes_ok old.disk new.disk z y p.writes.goes; counted = p.writes.counted ∙ one_block; uncounted = tt };
    staged = p.kept;
    within = width (Ok z) p;
    at_exit = λ told. record { done = has ((p.sets told).done); failed = tt };
    set = sets;
    unset = tt;
  }

  pub WritesEntry-ok : {T E S F : Type 0} (y : T) (q : Result S F) (x : S) (M : List ℕ) → q ≡ Ok x → PutsLive old (c / 128) block q new → PutsEntry memory M c s → length M ≡ length memory → WritesEntry {E = E} old memory c s (Ok y) new M
  WritesEntry-ok {S = S} {F = F} y q x M was p sets len = by_ok y x M (subst (λ (r : Result S F). PutsLive old (c / 128) block r new) was p) sets len

  by_err : {T E S F : Type 0} (e : E) (z : F) → PutsLive {T = S} old (c / 128) block (Err z) new → WritesEntry {T = T} old memory c s (Err e) new memory
  by_err e z p = record {
    place = p.place;
    len = refl;
    writes = record { goes = goes_err old.disk new.disk z e p.writes.goes; counted = tt; uncounted = p.writes.uncounted };
    staged = p.kept;
    within = width (Err z) p;
    at_exit = λ told. record {
      done = tt;
      failed = elim ((p.sets told).failed) [
        | inl same ↦ inl same
        | inr set ↦ inr (has set)
      ];
    };
    set = tt;
    unset = refl;
  }

  pub WritesEntry-err : {T E S F : Type 0} (e : E) (q : Result S F) (x : F) → q ≡ Err x → PutsLive old (c / 128) block q new → WritesEntry {T = T} old memory c s (Err e) new memory
  WritesEntry-err {S = S} {F = F} e q x was p = by_err e x (subst (λ (r : Result S F). PutsLive old (c / 128) block r new) was p)
