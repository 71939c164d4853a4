-- A mirror set as the code holds it.
use Rattle.avs_halves.specs.declared.mirrors.Mirror.{Mirror}
use Rattle.avs_halves.specs.SetBits.{SetBits}

abbrev pub set_bits : {D : Type 0} → Mirror D → SetBits
set_bits m = record { vol = m.vol; slot = m.slot; bits = m.bits }
