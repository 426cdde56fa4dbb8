use Rattle.std.proofs.Common.{◌≡◌, ◌==◌, Some, length, take}
use Rattle.csv.specs.Records.{fields_of}
use Rattle.csv.specs.Writing.{default_writer, fields_written, row_body, text_written, writer_setup}
use Rattle.hh_records.specs.Formats.{part_said}
use Rattle.hh_records.specs.Layouts.{fields_at}
use Rattle.hh_records.specs.Streams.{Fields}
use Rattle.hh_records.proofs.FormatFacts.{so_far}
use Rattle.hh_records.proofs.records.joined_key.Given as goal

abbrev pub invariant-loop-i : goal.invariant-loop-i
invariant-loop-i l = (writer_setup l.writer ≡ default_writer) × (fields_written l.writer ≡ l.i)
    × ((fs : Fields) × (fields_at (fields_of l.row) (take l.i l.places) ≡ Some fs)
    × (length fs ≡ l.i)
    × (text_written (λ text. Some text.items) l.writer
    ≡ Some (row_body default_writer (so_far (l.i == length l.places) (part_said l.part) fs))))
