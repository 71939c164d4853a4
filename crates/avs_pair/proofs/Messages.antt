-- What messages tell stays true.
use Rattle.std.proofs.Common.{◌≡◌, inl, inr, ℕ, zero, suc, ◌-◌, ◌<◌, ◌≤◌, Bool, true, false, ◌&&◌, cond, List, [], ◌∷◌, ◌++◌, Some, slice_get, ◌∙◌, refl, subst, arith}
use Rattle.std.specs.Prelude.{filter}
use Rattle.std.proofs.lemmas.Option.{same_Some}
use Rattle.avs_model.specs.declared.entry.Entry.{Entry}
use Rattle.avs_mirrors.specs.Allowed.{IsAmong, IsTold}
use Rattle.avs_mirrors.specs.Half.{Message, HalfRole, State, is_acting_state, is_sender, is_sending, is_session}
use Rattle.avs_mirrors.specs.Pair.{PairState, Session}
use Rattle.avs_pair.specs.Messages.{AreFaithful, IsFaithful}
use Rattle.avs_pair.proofs.Sound.{AreAnswered, Sound}
use Rattle.avs_pair.proofs.Orders.{slice_get_before}

pub faithful_none : (s : Session) (number n : ℕ) → AreFaithful s number n []
faithful_none s number n = record { each = λ k m is. absurd (cc) }

pub faithful_cons : (s : Session) (number n : ℕ) (m : Message) (ms : List Message) → IsFaithful s number n m → AreFaithful s number n ms → AreFaithful s number n (m ∷ ms)
faithful_cons s number n m ms one all = record { each = λ k x is. at k x is }
  where
    at : (k : ℕ) (x : Message) → slice_get (m ∷ ms) k ≡ Some x → IsFaithful s number n x
    at zero x is = subst (λ (y : Message). IsFaithful s number n y) (same_Some m x is) one
    at (suc k) x is = all.each k x is

-- the session has one entry more, or a mark besides
pub faithful_push : (s new : Session) (e : Entry) (number n : ℕ) (ms : List Message) → new.number ≡ s.number → new.order ≡ s.order ++ e ∷ [] → AreFaithful s number n ms → AreFaithful new number n ms
faithful_push s new e number n ms same is all = record {
  each = λ k m there. let f = all.each k m there in record {
    old = omega (arith, f.old, same);
    some = f.some;
    entry = λ here. rw is (slice_get_before s.order (e ∷ []) (m.place - 1) m.entry (f.entry (here ∙ same)));
    told = f.told;
  };
}

-- the target has applied more
pub faithful_next : (s : Session) (number n more : ℕ) (ms : List Message) → n ≤ more → AreFaithful s number n ms → AreFaithful s number more ms
faithful_next s number n more ms le all = record {
  each = λ k m there. let f = all.each k m there in record {
    old = f.old;
    some = f.some;
    entry = f.entry;
    told = λ upto got same. omega (arith, f.told upto got same);
  };
}

-- the target has a number that no message has
pub faithful_drawn : (s : Session) (number other n reached : ℕ) (ms : List Message) → s.number < other → AreFaithful s number n ms → AreFaithful s other reached ms
faithful_drawn s number other n reached ms above all = record {
  each = λ k m there. let f = all.each k m there in record {
    old = f.old;
    some = f.some;
    entry = f.entry;
    told = λ upto got same. absurd (omega (arith, f.old, same));
  };
}

-- a session begins that no message is of
pub faithful_begun : (s new : Session) (number n reached : ℕ) (ms : List Message) → s.number < new.number → AreFaithful s number n ms → AreFaithful new new.number reached ms
faithful_begun s new number n reached ms above all = record {
  each = λ k m there. let f = all.each k m there in record {
    old = omega (arith, f.old);
    some = f.some;
    entry = λ same. absurd (omega (arith, f.old, same));
    told = λ upto got same. absurd (omega (arith, f.old, same));
  };
}

pub faithful_at : (s : Session) (number n : ℕ) (ms : List Message) (m : Message) → IsAmong m ms → AreFaithful s number n ms → IsFaithful s number n m
faithful_at s number n ms m a all = all.each a.at m a.there

pub answered_none : (source target : ℕ) (acts : Bool) → AreAnswered source target acts []
answered_none source target acts = record { each = λ k m n is got number on. absurd (cc) }

-- a message without an answer, or one whose answer is of both halves' session
pub answered_cons : (source target : ℕ) (acts : Bool) (m : Message) (ms : List Message) → ((n : ℕ) → m.got ≡ Some n → m.number ≡ source → acts ≡ true → source ≡ target) → AreAnswered source target acts ms → AreAnswered source target acts (m ∷ ms)
answered_cons source target acts m ms one all = record { each = λ k x n is got number on. at k x is n got number on }
  where
    at : (k : ℕ) (x : Message) → slice_get (m ∷ ms) k ≡ Some x → (n : ℕ) → x.got ≡ Some n → x.number ≡ source → acts ≡ true → source ≡ target
    at zero x is = subst (λ (y : Message). (n : ℕ) → y.got ≡ Some n → y.number ≡ source → acts ≡ true → source ≡ target) (same_Some m x is) one
    at (suc k) x is = λ n got number on. all.each k x n is got number on

-- a source that does not act, or whose number is the target's
pub answered_when : (source target : ℕ) (acts : Bool) (ms : List Message) → (acts ≡ true → source ≡ target) → AreAnswered source target acts ms
answered_when source target acts ms same = record { each = λ k m n is got number on. same on }

acting_sends : (role : HalfRole) (state : State) → (is_sender role && is_acting_state state) ≡ true → (is_sender role && is_session state) ≡ true
acting_sends role state is = grind arith

-- what the source is told was applied in its session
pub record IsKnown (p : PairState) (upto : ℕ) : Type 0 where
  pub sends : is_sending p.source ≡ true
  pub same : p.source.number ≡ p.target.number
  pub reached : upto ≤ p.target.applied

pub told_is_known : (p : PairState) (upto : ℕ) → Sound p → IsTold p upto → IsKnown p upto
told_is_known p upto h (inl b) =
    let same : p.source.number ≡ p.target.number = h.answered.each b.among.at b.message upto b.among.there b.got b.number b.acts in record {
      sends = acting_sends p.source.role p.source.state b.acts;
      same = same;
      reached = (h.messages.each b.among.at b.message b.among.there).told upto b.got (b.number ∙ same);
    }
told_is_known p upto h (inr t) = record { sends = t.sends; same = t.same; reached = omega (arith, t.reached) }

-- messages that are left out tell nothing false
pub faithful_filter : (s : Session) (number n : ℕ) (test : Message → Bool) (ms : List Message) → AreFaithful s number n ms → AreFaithful s number n (filter test ms)
faithful_filter s number n test [] all = all
faithful_filter s number n test (m ∷ ms) all = by_test (test m) (all.each 0 m refl) (faithful_filter s number n test ms (record { each = λ k x is. all.each (suc k) x is }))
  where
    by_test : (b : Bool) → IsFaithful s number n m → AreFaithful s number n (filter test ms) → AreFaithful s number n (cond b (m ∷ filter test ms) (filter test ms))
    by_test true one rest = faithful_cons s number n m (filter test ms) one rest
    by_test false one rest = rest
