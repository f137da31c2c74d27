-- SubscribeCOV (clause 21): [0] the process, [1] the object, [2] whether notifications are confirmed, [3] the
-- lifetime. The last two may be absent.
use Rattle.std.specs.Prelude.{ℕ, List}
use Rattle.bac_tag.specs.Spelling.{Joins}
use Rattle.bac_productions.specs.Contents.{UnsignedField, ObjectField, BooleanField}
use Rattle.bac_productions.specs.Productions.{Optional}
use Rattle.bac_service.specs.declared.service.subscribe_cov.SubscribeCov.{SubscribeCov}

-- The lists that spell a SubscribeCOV: the process and the object. After them, each if it is there: whether
-- notifications are to be confirmed, and the lifetime.
abbrev pub SpellsSubscribeCov : SubscribeCov → List ℕ → Type 0
SpellsSubscribeCov request =
    Joins (UnsignedField 0 request.process)
    (Joins (ObjectField 1 request.object)
    (Joins (Optional (BooleanField 2) request.confirmed) (Optional (UnsignedField 3) request.lifetime)))
