-- A chunk that is copied from one disk to another.
use Rattle.std.proofs.Common.{◌≡◌, ◌≢◌, inl, inr, ℕ, ◌+◌, ◌*◌, ◌/◌, ◌<◌, ◌≤◌, cond, eqb, List, length, Result, Ok, Err, IsOk, OnOk, OnErr, refl, sym, ◌∙◌, ap, subst, arith}
use Rattle.std.proofs.lemmas.Bool.{cases_eq, false≢true}
use Rattle.std.proofs.lemmas.Result.{on_ok_weaker, on_err_weaker}
use Rattle.avs_seg.specs.Image.{Image, range, blocks_of, put, ChangesWithin}
use Rattle.avs_seg.proofs.Bytes.{length-blocks_of}
use Rattle.avs_seg.proofs.Changes.{ChangesWithin-same}
use Rattle.avs_seg.proofs.Ranges.{range-put}
use Rattle.avs_dev.specs.Seen.{Seen, IsTold, Reads, Writes}
use Rattle.avs_dev.specs.Memory.{counted}
use Rattle.avs_dev.proofs.Going.{goes_err}
use Rattle.avs_chunks.specs.Disks.{three, raised, Adds, copy_work}
use Rattle.avs_chunks.specs.Steps.{BothGoOn, CopiesSpan, CopiesChunk}
use Rattle.avs_chunks.proofs.Going.{both_read, both_then, both_turned, both_same, each_disk, cond_is, cond_not, raised-none, raised-some}

-- the read failed
pub span_unread : {T E T' E' : Type 0} (from from' to : Seen) (at len : ℕ) (out : List ℕ) (q : Result T' E') (x : E') (y : E) → q ≡ Err x → Reads from at out q from' → CopiesSpan {T = T} from to at len (Err y) from' to
span_unread {T} {E} {T'} {E'} from from' to at len out q x y is reads =
    let rd = subst (λ (r : Result T' E'). Reads from at out r from') is reads in
    record {
      go = both_read from to from' y (goes_err from from' x y rd.goes);
      rest = rd.rest;
      within = λ told. ChangesWithin-same at len to.image;
      copied = λ told told'. tt;
      counted = tt;
      uncounted = refl;
    }

-- the read was done, and the write may have failed
pub span_written : {T E T' E' : Type 0} (from from' to to' : Seen) (at len : ℕ) (out : List ℕ) (q : Result T' E') (x : T') (r : Result T E) → length out ≡ 512 * len → at + len ≤ to.size → q ≡ Ok x → Reads from at out q from' → Writes to at out r to' → CopiesSpan from to at len r from' to'
span_written {T} {E} {T'} {E'} from from' to to' at len out q x r long room is reads w =
    let rd = subst (λ (p : Result T' E'). Reads from at out p from') is reads in
    let count : length out / 512 ≡ len = omega (arith, long) in
    record {
      go = both_then from to from' to' x r rd.goes w.goes;
      rest = rd.rest;
      within = λ told. subst (λ (n : ℕ). ChangesWithin at n to.image to'.image) count (w.within told);
      copied = λ told told'. on_ok_weaker r (λ done.
          ap (λ (img : Image). range img at len) done
          ∙ ap (λ (n : ℕ). range (put to.image at (blocks_of out)) at n) (sym (length-blocks_of out ∙ count))
          ∙ range-put to.image at (blocks_of out) (omega (arith, room, told', count, length-blocks_of out))
          ∙ rd.shows told
          ∙ ap (λ (n : ℕ). range from.image at n) count) (w.done told');
      counted = on_ok_weaker r (λ c. c ∙ ap (λ (k : ℕ). counted to.written k) count) w.counted;
      uncounted = w.uncounted;
    }

-- ---- a chunk, whichever way it goes

pub record Copied {T E : Type 0} (state : ℕ) (m s : Seen) (at len : ℕ) (result : Result T E) (m_new s_new : Seen) : Type 0 where
  pub go : BothGoOn m s result m_new s_new
  pub master_same : state ≢ 3 → m_new.image ≡ m.image
  pub shadow_same : state ≢ 0 → s_new.image ≡ s.image
  pub master_within : IsTold m → ChangesWithin at len m.image m_new.image
  pub shadow_within : IsTold s → ChangesWithin at len s.image s_new.image
  pub to_shadow : IsTold m → IsTold s → state ≡ 0 → OnOk result (range s_new.image at len ≡ range m.image at len)
  pub to_master : IsTold m → IsTold s → state ≡ 3 → OnOk result (range m_new.image at len ≡ range s.image at len)
  pub adds : (b : Seen) → Adds (three m s b) (copy_work state len) result (three m_new s_new b)

unwritten : (a b k : ℕ) → b ≡ a → b ≤ a + k
unwritten a b k is = omega arith

adds_two : {T E : Type 0} (m s b m' s' : Seen) (state len : ℕ) (r : Result T E)
    → OnOk r ((m'.written ≡ raised m.written (cond (eqb state 3) len 0)) × (s'.written ≡ raised s.written (cond (eqb state 0) len 0)))
    → OnErr r ((m'.written ≤ m.written + cond (eqb state 3) len 0) × (s'.written ≤ s.written + cond (eqb state 0) len 0))
    → Adds (three m s b) (copy_work state len) r (three m' s' b)
adds_two m s b m' s' state len r done most = record {
  done = on_ok_weaker r (λ p. each_disk (λ d. (three m' s' b d).written ≡ raised (three m s b d).written (copy_work state len d)) p.0 p.1 refl) done;
  most = on_err_weaker r (λ p. each_disk (λ d. (three m' s' b d).written ≤ (three m s b d).written + copy_work state len d) p.0 p.1 (omega arith)) most;
}

to_shadow : {T E : Type 0} (state at len : ℕ) (r : Result T E) (m s m' s' : Seen) → state ≡ 0 → 0 < len → CopiesSpan m s at len r m' s' → Copied state m s at len r m' s'
to_shadow state at len r m s m' s' is some c =
    let same : m'.image ≡ m.image = ap (λ (d : Seen). d.image) c.rest in
    let count : m'.written ≡ m.written = ap (λ (d : Seen). d.written) c.rest in
    record {
      go = c.go;
      master_same = λ _. same;
      shadow_same = λ no. absurd (no is);
      master_within = λ _. subst (λ (l : Image). ChangesWithin at len m.image l) (sym same) (ChangesWithin-same at len m.image);
      shadow_within = c.within;
      to_shadow = λ told told' _. c.copied told told';
      to_master = λ _ _ three. absurd (zero_three state is three);
      adds = λ b. adds_two m s b m' s' state len r
          (on_ok_weaker r (λ n. (count ∙ sym (raised-none m.written _ (cond_not state 3 len 0 (zero_three state is))), n ∙ sym (raised-some s.written len some) ∙ ap (λ (k : ℕ). raised s.written k) (sym (cond_is state 0 len 0 is)))) c.counted)
          (on_err_weaker r (λ n. (unwritten m.written m'.written _ count, unwritten s.written s'.written _ n)) c.uncounted);
    }
  where
    zero_three : (k : ℕ) → k ≡ 0 → k ≢ 3
    zero_three k a b = omega (arith, a, b)

to_master : {T E : Type 0} (state at len : ℕ) (r : Result T E) (m s m' s' : Seen) → state ≡ 3 → 0 < len → CopiesSpan s m at len r s' m' → Copied state m s at len r m' s'
to_master state at len r m s m' s' is some c =
    let same : s'.image ≡ s.image = ap (λ (d : Seen). d.image) c.rest in
    let count : s'.written ≡ s.written = ap (λ (d : Seen). d.written) c.rest in
    record {
      go = both_turned s m s' m' r c.go;
      master_same = λ no. absurd (no is);
      shadow_same = λ _. same;
      master_within = c.within;
      shadow_within = λ _. subst (λ (l : Image). ChangesWithin at len s.image l) (sym same) (ChangesWithin-same at len s.image);
      to_shadow = λ _ _ zero. absurd (zero_three state zero is);
      to_master = λ told told' _. c.copied told' told;
      adds = λ b. adds_two m s b m' s' state len r
          (on_ok_weaker r (λ n. (n ∙ sym (raised-some m.written len some) ∙ ap (λ (k : ℕ). raised m.written k) (sym (cond_is state 3 len 0 is)), count ∙ sym (raised-none s.written _ (cond_not state 0 len 0 (λ z. zero_three state z is))))) c.counted)
          (on_err_weaker r (λ n. (unwritten m.written m'.written _ n, unwritten s.written s'.written _ count)) c.uncounted);
    }
  where
    zero_three : (k : ℕ) → k ≡ 0 → k ≢ 3
    zero_three k a b = omega (arith, a, b)

chunk_alone : {T E : Type 0} (state at len : ℕ) (x : T) (m s : Seen) → state ≢ 0 → state ≢ 3 → Copied {E = E} state m s at len (Ok x) m s
chunk_alone state at len x m s no_0 no_3 = record {
  go = both_same m s (Ok x) refl;
  master_same = λ _. refl;
  shadow_same = λ _. refl;
  master_within = λ _. ChangesWithin-same at len m.image;
  shadow_within = λ _. ChangesWithin-same at len s.image;
  to_shadow = λ _ _ zero. absurd (no_0 zero);
  to_master = λ _ _ three. absurd (no_3 three);
  adds = λ b. adds_two m s b m s state len (Ok x) (sym (raised-none m.written _ (cond_not state 3 len 0 no_3)), sym (raised-none s.written _ (cond_not state 0 len 0 no_0))) tt;
}

pub chunk_copied : {T E : Type 0} (state at len : ℕ) (r : Result T E) (m s m' s' : Seen) → 0 < len → CopiesChunk state m s at len r m' s' → Copied state m s at len r m' s'
chunk_copied state at len r m s m' s' some c = elim (cases_eq state 0) [
  | inl is ↦ to_shadow state at len r m s m' s' is some (c.to_shadow is)
  | inr no_0 ↦ elim (cases_eq state 3) [
    | inl is ↦ to_master state at len r m s m' s' is some (c.to_master is)
    | inr no_3 ↦
        let none = c.nothing no_0 no_3 in
        subst (λ (d : Seen). Copied state m s at len r d s') (sym none.master_same)
        (subst (λ (d : Seen). Copied state m s at len r m d) (sym none.shadow_same) (alone r none.ok no_0 no_3))
  ]
]
  where
    alone : {T E : Type 0} (q : Result T E) → IsOk q → state ≢ 0 → state ≢ 3 → Copied state m s at len q m s
    alone (Ok x) ok no_0 no_3 = chunk_alone state at len x m s no_0 no_3
    alone (Err e) ok no_0 no_3 = absurd (false≢true ok)

-- the same where the state and the place are told by other words
pub copied_there : {T E : Type 0} (state at len state' at' len' : ℕ) (r : Result T E) (m s m' s' : Seen) → state ≡ state' → at ≡ at' → len ≡ len' → 0 < len → CopiesChunk state m s at len r m' s' → Copied state' m s at' len' r m' s'
copied_there state at len state' at' len' r m s m' s' a b c some copies =
    subst (λ (i : ℕ). Copied i m s at' len' r m' s') a
    (subst (λ (i : ℕ). Copied state m s i len' r m' s') b
    (subst (λ (i : ℕ). Copied state m s at i r m' s') c (chunk_copied state at len r m s m' s' some copies)))
