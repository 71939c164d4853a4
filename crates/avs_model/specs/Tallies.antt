-- How a look changes a tap's tally.
use Rattle.std.specs.Prelude.{ℕ, ◌+◌, ◌-◌, ◌^◌, min}
use Rattle.avs_model.specs.declared.tap.Tally.{Tally}
use Rattle.avs_model.specs.declared.tap.Verdict.{Verdict}
use Rattle.avs_model.specs.declared.tap.Verdict.TheVariants.{Pass, Veto}

-- one more, up to the type's end
abbrev pub raised : ℕ → ℕ
raised n = min (n + 1) (2 ^ 64 - 1)

abbrev pub tally_after : Tally → Verdict → Tally
tally_after tally Pass = record { looks = raised tally.looks; vetoes = tally.vetoes }
tally_after tally (Veto code) = record { looks = raised tally.looks; vetoes = raised tally.vetoes }
