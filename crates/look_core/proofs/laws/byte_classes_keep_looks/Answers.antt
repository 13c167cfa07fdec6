use Rattle.look_core.proofs.KeepLemmas.{kept_bytes, kept_characters}
use Rattle.look_core.proofs.laws.byte_classes_keep_looks.Goals as goal

pub returns-clause-bytes : goal.returns-clause-bytes
returns-clause-bytes c = λ words t looks marks h g l i unmarked bytes_h bytes_g same member u.
    kept_bytes t looks marks unmarked h g bytes_h bytes_g same l member words i u

pub returns-clause-characters : goal.returns-clause-characters
returns-clause-characters c = λ words t looks marks h g l i unmarked bytes_h bytes_g same member u set close.
    kept_characters t looks marks unmarked h g bytes_h bytes_g same l member words i set close u
