-- The body does nothing. What the reference holds says what is known of the service, and that gives a spelling.
use Rattle.std.proofs.Common.{List, [], ◌∷◌, refl}
use mir.Syntax.{named}
use mir.Val.{Val, vunit}
use base.Logic.{guard_i}
use base.Fml.{ftrue, flft}
use contract.Monad.{fact_use}
use types.Logic.{sem}
use types.Kit.{‵, ◌⊛◌, given, ◌$◌, ◌∵◌, !, qed, done, move, keep, drop, use1, split, join, learn, feq_i, suffices}
use types.Run.{enter, of_opd, unit_lit, returns}
use types.ByLocal.{alloc_all, pass_all, free_all, look_at, sets}
use denote.Builtin.{RefOf}
use denote.Exit.{yes}
use denote.Known.{shr_known}
use denote.Ref.{ShrRef, shr_vals, shr_Tells}
use denote.Signature.{plain}
use denote.Steps.{nothing}
use denote.Triple.Walked.{Stays, says, stay_dropped, Goes-dropped, ends_at}
use Rattle.std.proofs.raw_atomic.Walks.{proved}
use Rattle.bac_service.specs.contracts.service.Service.{the_row}
use Rattle.bac_service.specs.contracts.laws.held_services_are_spelled as f
use Rattle.bac_service.proofs.SpellingLemmas.{service_known, held_service}
use Rattle.bac_service.proofs.laws.held_services_are_spelled.Statement.{statement}
use Rattle.bac_service.proofs.laws.held_services_are_spelled.Code as code

abbrev stayed : Stays f.ended.signature.params f.ended.kept
stayed = (stay_dropped (RefOf (0 ∷ []) tt (plain (λ _. the_row)) (λ _. tt)) yes, tt)

pub held_services_are_spelled_spec : {M : Type 1} → statement M
held_services_are_spelled_spec 𝓤 𝓛 𝓜 𝓡 wired =
    let c = f.clauses 𝓛 𝓜.mem 𝓡.returns in
    proved 𝓛 f.ended stayed c 𝓜 𝓡 (Goes-dropped 𝓛 1 (RefOf (0 ∷ []) tt (plain (λ _. the_row)) (λ _. tt)) yes (λ κs x w. refl), tt)
    f.Key.name code.function (code.unfolded 𝓤 𝓛.H 𝓜 𝓡 wired)
    (λ κs. (shr_vals, tt)) (λ κs. (shr_Tells (named 0) κs.0 the_row, tt)) (λ κs qs bounds a _ are.
    let κ = κs.0 in let q = qs.0 in let vs = shr_vals a.0 in
    let Ref = ShrRef (named 0) κ the_row in
    let known = shr_known the_row service_known (named 0) κ in
    qed 𝓛 (((‵ (flft κ q) ⊛ ‵ ftrue) ⊛ ‵ (Ref.own_val a.0 vs) ⊛ ‵ ftrue) ∷ ‵ ftrue ∷ []) ∵
    split ! $ split ! $ move ! (2 ∷ []) $ split ! $ keep ! (0 ∷ 2 ∷ []) $
    use1 𝓛 (given (known.Fact a.0) (‵ (Ref.own_val a.0 vs))) (fact_use 𝓤 (known.Fact a.0) ((known.owned a.0 vs).go _ 𝓤 𝓛) (guard_i 𝓤 (known.Fact a.0) (sem 𝓛 (Ref.own_val a.0 vs)))) $
    learn ! (λ facts. drop ! $
    enter ! _ _ _ _ _ $ alloc_all ! (λ l. pass_all ! refl ((tt, tt), tt) $
    sets ! (of_opd ! (unit_lit !)) refl (tt, tt) $
    returns ! (look_at ! 0 refl) $ free_all ! refl $
    suffices ! _ (ends_at 𝓛 f.ended stayed c ((κs, qs, bounds, a, (vs, tt)), tt) vunit tt (tt, tt) (tt, tt)) $ says ! (held_service a.0.now facts) $
    feq_i ! (List Val) (vunit ∷ []) (vunit ∷ []) refl $ nothing ! $ nothing ! $ join ! $ nothing ! $ move ! (3 ∷ 0 ∷ []) $ join ! $ done !)))
