-- Entries are staged block by block.
use Rattle.std.proofs.Common.{◌≡◌, inr, ℕ, ◌+◌, ◌*◌, ◌<◌, ◌≤◌, cond, eqb, List, Result, Ok, Err, ◌∙◌, sym, refl, ap, subst, arith}
use Rattle.std.specs.Prelude.{nat_lt, ◌&&◌}
use Rattle.std.proofs.lemmas.Result.{on_ok_weaker, on_err_weaker}
use Rattle.avs_seg.specs.declared.fault.Failed.{Failed}
use Rattle.avs_seg.proofs.Exits.{ok_exit}
use Rattle.avs_dev.specs.Seen.{IsTold}
use Rattle.avs_dev.proofs.Going.{goes_same, goes_then}
use Rattle.avs_flip.specs.Areas.{Areas}
use Rattle.avs_entries.specs.Entries.{slot_by, entry_for, entry_in}
use Rattle.avs_entries.specs.Staging.{AreSetTo, KeepsLive, StagesNext}
use Rattle.avs_entries.specs.Parts.{told_by, split_to}
use Rattle.avs_entries.proofs.Counted.{raised-then, raised_most}
use Rattle.avs_entries.proofs.Staged.{set_more}
use Rattle.avs_compact.specs.CompactSet.{CompactSet, chunks_of, entry_of, next_of, staged_entry}
use Rattle.avs_compact.specs.Disks.{raised}
use Rattle.avs_compact.specs.Staging.{StagesBlocks}

-- ---- one block, on the disk and in memory

pub stages_one : {T E : Type 0} (s : CompactSet) (to : ℕ → ℕ) (a' : Areas) (N : List ℕ) (at : ℕ) (r : Result T E) → AreSetTo (next_of s) (entry_in N) to (128 * at) (128 * (at + 1)) → StagesNext s.areas N at r a' → StagesBlocks s to at 1 r (record s { areas = a'; next = N })
stages_one s to a' N at r filled p = record {
  is = ap (λ (a : Areas). record s { areas = a; next = N }) p.place;
  goes = p.goes;
  kept = p.kept;
  staged = λ told. on_ok_weaker r (λ st. record { inside = λ c low high. st.inside c low high ∙ filled.inside c low high; outside = st.outside }) (p.staged told);
  held = ok_exit r filled;
  written = p.counted;
  most = on_err_weaker r (λ n. omega (arith, n)) p.uncounted;
}

-- ---- block by block

pub blocks_none : (s : CompactSet) (to : ℕ → ℕ) (first : ℕ) → StagesBlocks {T = Unit {0}} {E = Failed} s to first 0 (Ok tt) s
blocks_none s to first = record {
  is = refl;
  goes = goes_same s.areas.disk tt;
  kept = λ told. record { label = refl; live = refl };
  staged = λ told. record { inside = λ c low high. absurd (omega (arith, low, high)); outside = λ c out. refl };
  held = record { inside = λ c low high. absurd (omega (arith, low, high)); outside = λ c out. refl };
  written = refl;
  most = tt;
}

module _ (s now new : CompactSet) (to to' : ℕ → ℕ) (first n k : ℕ) (same : (c : ℕ) → 128 * (first + n) ≤ c → c < 128 * (first + n + k) → to' c ≡ to c) (so : StagesBlocks {T = Unit {0}} {E = Failed} s to first n (Ok tt) now) where
  is_then : {T E : Type 0} (r : Result T E) → StagesBlocks now to' (first + n) k r new → new ≡ record s { areas = record s.areas { disk = new.areas.disk }; next = new.next }
  is_then r p = p.is ∙ ap (λ (x : CompactSet). record x { areas = record x.areas { disk = new.areas.disk }; next = new.next }) so.is

  kept_then : {T E : Type 0} (r : Result T E) → StagesBlocks now to' (first + n) k r new → IsTold s.areas.disk → KeepsLive s.areas new.areas
  kept_then r p told =
      let a = so.kept told in
      let b = p.kept (so.goes.lasts.told told) in
      record { label = b.label ∙ a.label; live = b.live ∙ a.live }

  pub blocks_more : (q : Result (Unit {0}) Failed) → q ≡ Ok tt → StagesBlocks now to' (first + n) k q new → StagesBlocks {T = Unit {0}} {E = Failed} s to first (n + k) (Ok tt) new
  blocks_more q is one =
      let p = subst (λ (r : Result (Unit {0}) Failed). StagesBlocks now to' (first + n) k r new) is one in
      record {
        is = is_then (Ok tt) p;
        goes = goes_then s.areas.disk now.areas.disk new.areas.disk tt (Ok tt) so.goes p.goes;
        kept = kept_then (Ok tt) p;
        staged = λ told. set_more (staged_entry s) (staged_entry now) (staged_entry new) to to' first n k same (so.staged told) (p.staged (so.goes.lasts.told told));
        held = set_more (next_of s) (next_of now) (next_of new) to to' first n k same so.held p.held;
        written = p.written ∙ ap (λ (w : ℕ). raised w k) so.written ∙ raised-then s.areas.disk.written n k;
        most = tt;
      }

  pub blocks_fail : (m : ℕ) (e : Failed) (q : Result (Unit {0}) Failed) → n + k ≤ m → q ≡ Err e → StagesBlocks now to' (first + n) k q new → StagesBlocks {T = Unit {0}} s to first m (Err e) new
  blocks_fail m e q lt is one =
      let p = subst (λ (r : Result (Unit {0}) Failed). StagesBlocks now to' (first + n) k r new) is one in
      record {
        is = is_then (Err e) p;
        goes = goes_then s.areas.disk now.areas.disk new.areas.disk tt (Err e) so.goes p.goes;
        kept = kept_then (Err e) p;
        staged = λ told. tt;
        held = tt;
        written = tt;
        most = (let most : now.areas.disk.written ≤ s.areas.disk.written + n = subst (λ (w : ℕ). w ≤ s.areas.disk.written + n) (sym so.written) (raised_most s.areas.disk.written n) in omega (arith, most, p.most, lt));
      }

-- ---- a part with those chunks split that are told: of the blocks behind those that were staged

pub split_same : (s now : CompactSet) (bits : List ℕ) (part first n : ℕ) → StagesBlocks {T = Unit {0}} {E = Failed} s (split_to (chunks_of s) bits part (entry_of s) (next_of s)) first n (Ok tt) now
    → (c : ℕ) → 128 * (first + n) ≤ c → split_to (chunks_of now) bits part (entry_of now) (next_of now) c ≡ split_to (chunks_of s) bits part (entry_of s) (next_of s) c
split_same s now bits part first n so c low =
    ap (λ (x : CompactSet). split_to (chunks_of x) bits part (entry_of x) (next_of now) c) so.is
    ∙ ap (λ (k : ℕ). cond (nat_lt c (chunks_of s) && told_by bits part c) (cond (eqb (entry_of s c) 0) k (entry_for 2 (slot_by (entry_of s c)))) (entry_of s c)) (so.held.outside c (inr low))
