-- Sources and sinks over readers and writers of std, and what these know of their bytes.
use Rattle.std.specs.Prelude.{ℕ}
use Rattle.avs_io.specs.declared.adapters.Reading.{Reading}
use Rattle.avs_io.specs.declared.adapters.Writing.{Writing}

-- the reader of a source
abbrev pub reader_in : {R : Type 0} → Reading R → R
reader_in source = source.reader

-- the writer of a sink
abbrev pub writer_in : {W : Type 0} → Writing W → W
writer_in sink = sink.writer

-- how often the reader has failed
abbrev pub read_faults : {R : Type 0} → Reading R → ℕ
read_faults source = source.faults

-- how often the writer has failed, or has taken none of some bytes
abbrev pub write_faults : {W : Type 0} → Writing W → ℕ
write_faults sink = sink.faults
