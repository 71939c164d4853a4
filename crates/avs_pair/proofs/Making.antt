-- What some events make of the halves, each in one piece.
use Rattle.std.proofs.Common.{◌≡◌, ℕ, max, Bool, true, false, cond, [], ◌∷◌, ◌++◌, Option, None, Some, is_some, refl, ap, arith}
use Rattle.std.specs.Prelude.{◌||◌}
use Rattle.avs_seg.specs.Image.{Image}
use Rattle.avs_mirrors.specs.Due.{Due, both_due, freed_due, frees, has, noted, zero_of, zeros}
use Rattle.avs_mirrors.specs.Entries.{written}
use Rattle.avs_mirrors.specs.Events.{asks, asks_reversed, bits_for, learn, next_number, turn_where, write_away, write_source}
use Rattle.avs_mirrors.specs.Half.{HalfState, Replicating, begun_with, is_sending, knows_mark, with_known, with_write}
use Rattle.avs_mirrors.specs.Moves.{ChangeSource, Enter, EnterReversed, Free, Know, NoteSource, PlaceWrite, after, after_all, with_source}
use Rattle.avs_mirrors.specs.Pair.{PairState}
use Rattle.avs_pair.specs.Begins.{BeginsForward, BeginsReversed}

pub makes_logged : (p : PairState) (set at : ℕ) (bytes : Image) → is_sending p.source ≡ false → after_all p (write_source p set at bytes) ≡ with_source p (with_write p.source (written set at bytes))
makes_logged p set at bytes away = ap (λ (b : Bool). after_all p (cond b (PlaceWrite set at bytes ∷ []) (write_away NoteSource ChangeSource p.source.images set at bytes))) away

pub makes_known : (p : PairState) (upto : ℕ) → after_all p (learn p upto) ≡ with_source p (with_known p.source upto p.session.mark)
makes_known p upto = by_mark (knows_mark p.session.mark (max p.source.known upto))
  where
    by_mark : (b : Bool) → after_all (after (after p (Free upto (frees p.source.due upto))) (Know upto)) (turn_where b) ≡ with_source p (record p.source { due = freed_due p.source.due (frees p.source.due upto); known = max p.source.known upto; state = cond b Replicating p.source.state })
    by_mark true = refl
    by_mark false = refl

-- the bits of the receiver are among those that the sender sets
same_bits : (o : Option ℕ) (key : Bool) (theirs : Option ℕ) → (key ≡ false → is_some theirs ≡ false)
    → cond (is_some (zero_of (cond (is_some o) o (cond key (Some 0) None)))) (Some 0) (zero_of theirs) ≡ zero_of (cond (is_some o) o (cond key (Some 0) None))
same_bits (Some k) key theirs within = refl
same_bits None true theirs within = refl
same_bits None false None within = refl
same_bits None false (Some k) within = absurd (cc_of (within refl))
  where
    cc_of : true ≡ false → ⊥
    cc_of is = absurd (cc)

both_bits : (full : Bool) (a b : HalfState) → both_due (zeros (noted a.due (bits_for full a b))) b.due ≡ zeros (noted a.due (bits_for full a b))
both_bits full a b = λ i set seg. same_bits (a.due set seg) (bits_for full a b set seg) (b.due set seg) (within set seg) i
  where
    within : (set seg : ℕ) → bits_for full a b set seg ≡ false → has b.due set seg ≡ false
    within set seg none = first (has b.due set seg) _ none
      where
        first : (c d : Bool) → (c || d) ≡ false → c ≡ false
        first c d off = grind arith

-- no place frees a segment, also once more
zeros_again : (due : Due) → zeros (zeros due) ≡ zeros due
zeros_again due = λ i set seg. one (due set seg) i
  where
    one : (o : Option ℕ) → zero_of (zero_of o) ≡ zero_of o
    one None = refl
    one (Some k) = refl

pub makes_begun : (p : PairState) (full : Bool) (most : ℕ) → BeginsForward p full most (after_all p (asks p full ++ Enter most ∷ []))
makes_begun p full most = record {
  source = ap (λ (due : Due). record (begun_with p.source (bits_for full p.source p.target) (next_number p)) { due = due }) (both_bits full p.source p.target);
  target = refl;
  session = refl;
  messages = refl;
}

-- a sender that was in logging has its bits as they are: both maps say the same once all places are 0
plain_bits : (full : Bool) (a b : HalfState) → both_due (noted a.due (bits_for full a b)) b.due ≡ zeros (noted a.due (bits_for full a b))
plain_bits full a b = λ i set seg. one (noted a.due (bits_for full a b) set seg) (b.due set seg) (within set seg) i
  where
    one : (o theirs : Option ℕ) → (is_some o ≡ false → is_some theirs ≡ false) → cond (is_some o) (Some 0) (zero_of theirs) ≡ zero_of o
    one (Some k) theirs within = refl
    one None None within = refl
    one None (Some k) within = absurd (off (within refl))
      where
        off : true ≡ false → ⊥
        off is = absurd (cc)

    within : (set seg : ℕ) → has (noted a.due (bits_for full a b)) set seg ≡ false → has b.due set seg ≡ false
    within set seg none = grind arith

pub makes_reversed : (p : PairState) (full : Bool) (most : ℕ) → BeginsReversed p full most (after_all p (asks_reversed p full ++ EnterReversed most ∷ []))
makes_reversed p full most = record {
  source = ap (λ (due : Due). record (begun_with p.target (bits_for full p.target p.source) (next_number p)) { due = due }) (plain_bits full p.target p.source);
  target = refl;
  session = refl;
  messages = refl;
}
