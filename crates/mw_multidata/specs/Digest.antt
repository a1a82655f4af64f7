-- What names a seed file.
use Rattle.std.specs.Prelude.{ℕ, List}
use Rattle.sha2.specs.Sha256.{sha256}

-- the SHA-256 of its bytes (FIPS 180-4)
abbrev pub digest_of : List ℕ → List ℕ
digest_of bytes = sha256 bytes
