-- The entries that were staged are live.
use Rattle.std.proofs.Common.{◌≡◌, ℕ, List, not, sym, ◌∙◌, ap, subst}
use Rattle.avs_dev.specs.Seen.{IsTold}
use Rattle.avs_flip.specs.Areas.{Areas, live, staged}
use Rattle.avs_entries.specs.Entries.{entry_in, entry_on}
use Rattle.avs_entries.specs.Slots.{AreEntries, HasBadEntry}
use Rattle.avs_compact.specs.CompactSet.{CompactSet, chunks_of, next_of}
use Rattle.avs_compact.specs.Staging.{TurnsSet}

pub turns : (s : CompactSet) (a' : Areas) (M' : List ℕ) → a' ≡ record s.areas { live_b = not s.areas.live_b } → live a' ≡ staged s.areas → staged a' ≡ live s.areas → (AreEntries (next_of s) s.own (chunks_of s) → M' ≡ s.next)
    → (HasBadEntry (next_of s) s.own (chunks_of s) → (c : ℕ) → entry_in M' c ≡ 0) → TurnsSet s (record s { areas = a'; memory = M'; next = s.memory; low = 0; ahead = 0 })
turns s a' M' place now_live now_staged whole broken = record {
  rest = ap (λ (a : Areas). record s { areas = a; memory = M'; next = s.memory; low = 0; ahead = 0 }) place;
  now_live = now_live;
  now_staged = now_staged;
  memory = whole;
  broken = broken;
  known = λ o told_s told_b told_o ready good. record {
    shadow = told_s;
    bitmap = subst (λ (a : Areas). IsTold a.disk) (sym place) told_b;
    over = told_o;
    step = record { each = λ c lt. ap (λ (l : List ℕ). entry_in l c) (whole good) ∙ sym (ready.each c lt) ∙ ap (λ l. entry_on l c) (sym now_live) };
  };
}
