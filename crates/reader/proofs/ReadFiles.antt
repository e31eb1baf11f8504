-- What holds of every file that was read. Assumes nothing.
use Rattle.std.proofs.Common.{◌≤◌, length}
use Rattle.decoding.specs.Bytes.{AreBytes}
use Rattle.reader.specs.declared.model.ReadFile.{ReadFile}
use Rattle.reader.specs.declared.model.Readable.{Readable}
use Rattle.reader.specs.File.{file_model}
use Rattle.reader.specs.Encoding.{Encodable}
use Rattle.reader.proofs.Readings.{readable_out}
use Rattle.reader.proofs.Formed.{model_formed}

module _ (f : Readable) where
  pub readable_bytes : AreBytes f.bytes.now
  unfolding AreBytes
  readable_bytes = f.are_bytes

  pub readable_short : length f.bytes.now ≤ 4096
  readable_short = (readable_out f.bytes.now f.is_read).short

  pub readable_formed : Encodable (file_model f.bytes.now)
  readable_formed = model_formed f.bytes.now readable_bytes f.is_read

-- a file's bytes alone
abbrev pub readable_of : ReadFile → Readable
readable_of f = record { bytes = f.bytes; are_bytes = f.are_bytes; is_read = f.is_read }

module _ (f : ReadFile) where
  pub file_bytes : AreBytes f.bytes.now
  file_bytes = readable_bytes (readable_of f)

  pub file_short : length f.bytes.now ≤ 4096
  file_short = readable_short (readable_of f)

  pub file_formed : Encodable (file_model f.bytes.now)
  file_formed = readable_formed (readable_of f)
