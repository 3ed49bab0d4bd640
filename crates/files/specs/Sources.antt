-- A file that is not there.
use Rattle.std.specs.Prelude.{Bool, is_none}
use Rattle.files.specs.declared.source.Source.{Source}

abbrev pub is_missing : Source → Bool
is_missing s = is_none s.file
