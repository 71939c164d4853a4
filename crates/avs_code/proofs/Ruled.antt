-- Rules in the order of their fields.
use Rattle.std.proofs.Common.{◌≡◌, ℕ, ◌+◌, Bool, true, false, not, List, [], ◌∷◌, None, Some, Ok, Err, ◌≤◌, refl, sym, ap, ◌∙◌, inl, inr, ⊎_elim, arith}
use Rattle.std.specs.Prelude.{nat_le, ◌==◌, ◌≢◌, ◌&&◌, ◌||◌}
use Rattle.std.specs.Bool.{Decides}
use Rattle.std.proofs.lemmas.Bool.{cases_eq}
use Rattle.std.proofs.lemmas.Bool.Decides.{Decides-and, Decides-or, Decides-eqb, leb_tells}
use Rattle.std.specs.List.{position_from}
use Rattle.std.proofs.lemmas.Iterator.Adapters.{position_from-zero}
use Rattle.avs_seg.specs.Image.{Block}
use Rattle.avs_code.specs.Rules.{first_broken, Reads}
use Rattle.avs_code.specs.declared.records.BadRecord.{BadRecord}

-- every rule holds
abbrev pub AllHold : List Bool → Type 0
AllHold [] = Unit {0}
AllHold (b ∷ bs) = (b ≡ true) × AllHold bs

held : (i : ℕ) (rules : List Bool) → position_from not i rules ≡ None → AllHold rules
held i [] none = tt
held i (true ∷ bs) none = (refl, held (i + 1) bs none)
held i (false ∷ bs) none = cc

none : (i : ℕ) (rules : List Bool) → AllHold rules → position_from not i rules ≡ None
none i [] hold = refl
none i (true ∷ bs) hold = none (i + 1) bs hold.1
none i (false ∷ bs) hold = let no = hold.0 in cc

pub first_broken-None : (rules : List Bool) → first_broken rules ≡ None → AllHold rules
first_broken-None rules none = held 0 rules (sym (position_from-zero not rules) ∙ none)

pub first_broken-all : (rules : List Bool) → AllHold rules → first_broken rules ≡ None
first_broken-all rules hold = position_from-zero not rules ∙ none 0 rules hold

-- what makes an answer right: a block stands for at most one value, and then every rule holds
module _ {X : Type 0} (Is : Block → X → Type 0) (rules : Block → List Bool) (block : Block) where
  pub Reads-Ok : (y : X) → Is block y → ((x : X) → Is block x → y ≡ x) → first_broken (rules block) ≡ None → Reads Is rules block (Ok y)
  Reads-Ok y is only none = record { ok = is; exact = λ x other. ap Ok (only x other); field = none }

  pub Reads-Err : (e : BadRecord) → ((x : X) → Is block x → first_broken (rules block) ≡ None) → first_broken (rules block) ≡ Some e.0 → Reads Is rules block (Err e)
  Reads-Err e holds broken = record { ok = tt; exact = λ x is. let no = holds x is in cc; field = broken }

-- two rules in one
pub both : (a b : Bool) → (a && b) ≡ true → (a ≡ true) × (b ≡ true)
both a b holds = (Decides-and a b (λ e. e, λ e. e) (λ e. e, λ e. e)).0 holds

-- the tests of the rules
pub Decides-leb : (a b : ℕ) → Decides (nat_le a b) (a ≤ b)
Decides-leb a b = ⊎_elim
    (λ yes. (λ holds. yes.1, λ below. yes.0))
    (λ no. (λ holds. let differ = no.0 in cc, λ below. absurd (omega arith)))
    (leb_tells a b)

-- k is a, or else t is b
pub Decides-unless : (k a t b : ℕ) → Decides (k == a || t == b) (k ≢ a → t ≡ b)
Decides-unless k a t b =
    let either = Decides-or (k == a) (t == b) (Decides-eqb k a) (Decides-eqb t b) in (
      λ holds other. ⊎_elim (λ same. absurd (other same)) (λ is. is) (either.0 holds),
      λ is. either.1 (⊎_elim (λ same. inl same) (λ other. inr (is other)) (cases_eq k a)),
    )
