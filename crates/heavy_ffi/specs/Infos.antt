-- What is in a value, as numbers.
use Rattle.std.specs.Prelude.{ℕ, length}
use Rattle.hh_stream.specs.Weights.{total_of}
use Rattle.hh_summaries.specs.Counters.{slack}
use Rattle.hh_saved.specs.declared.saved.Saved.{Saved}
use Rattle.hh_saved.specs.declared.saved.Saved.TheVariants.{Counters, Cells}
use Rattle.heavy_ffi.specs.declared.info.Info.{Info}

-- the kinds of value
abbrev pub summary_kind : ℕ
summary_kind = 1

abbrev pub table_kind : ℕ
table_kind = 2

-- the numbers of a value; those of the other kind are 0
abbrev pub info_of : Saved → Info
info_of (Counters s) = record {
  kind = summary_kind;
  total = s.total;
  k = s.k;
  keys = length s.counters;
  counters = total_of s.counters;
  slack = slack s.counters s.total s.k;
  width = 0;
  depth = 0;
}
info_of (Cells t) = record {
  kind = table_kind;
  total = t.total;
  k = 0;
  keys = 0;
  counters = 0;
  slack = 0;
  width = t.width;
  depth = length t.family.rows;
}
