use Rattle.std.proofs.Common.{None, arith, false, inl, inr, refl}
use Rattle.hh_pieces.specs.LongRecords.{ReadsWithin}
use Rattle.hh_pieces.proofs.AlikeFacts.{IsCut, keeps-all, keeps-enough}
use Rattle.hh_pieces.proofs.long_record.Limits.of.Goals as goal
use Rattle.hh_pieces.proofs.long_record.Limits.of.Goals.{in-Csv, in-None, in-Some, in-Squeezed}

pub returns-in-Lines : goal.returns-in-Lines
returns-in-Lines c t fs =
    keeps-all c.args.layout.now c.args.columns.now (record { squeezes = false; fields = None; bytes = None }) t fs refl refl refl

pub returns : goal.returns
returns c t fs =
    keeps-enough c.args.layout.now c.args.columns.now
    (record { squeezes = c.match-layout.squeezes; fields = c.match-indices.fields; bytes = c.bytes_read-bytes.result }) t fs
    cut within c.bytes_read-bytes.ensures.whole c.bytes_read-bytes.ensures.long c.bytes_read-bytes.ensures.small
  where
    cut : IsCut c.args.layout.now.format c.match-layout.squeezes
    cut =
        elim c.match-layout.branch [
          | in-Csv w ↦ elim w.in-Csv.is [
            | inl csv ↦ rw csv w.squeezes-is
            | inr unquoted ↦ rw unquoted w.squeezes-is
          ]
          | in-Squeezed w ↦ rw w.in-Squeezed.is w.squeezes-is
        ]

    within : ReadsWithin c.args.columns.now c.match-indices.fields
    within =
        elim c.match-indices.branch [
          | in-Some w ↦ rw (← c.indices.ensures, w.in-Some.is, w.fields-is) w.fields_read-fields.ensures
          | in-None w ↦ rw (← c.indices.ensures, w.in-None.is, w.fields-is) (omega arith)
        ]
