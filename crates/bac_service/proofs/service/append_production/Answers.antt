use Rattle.bac_service.proofs.service.append_production.Goals as goal

pub returns-in-ReadProperty-clause-ok : goal.returns-in-ReadProperty-clause-ok
returns-in-ReadProperty-clause-ok c = rw c.in-ReadProperty.is c.write_fields.ensures.ok

pub returns-in-ReadPropertyAck-clause-ok : goal.returns-in-ReadPropertyAck-clause-ok
returns-in-ReadPropertyAck-clause-ok c = rw c.in-ReadPropertyAck.is c.write_fields-in-ReadPropertyAck.ensures.ok

pub returns-in-WriteProperty-clause-ok : goal.returns-in-WriteProperty-clause-ok
returns-in-WriteProperty-clause-ok c = rw c.in-WriteProperty.is c.write_fields-in-WriteProperty.ensures.ok

pub returns-in-WhoIs-clause-ok : goal.returns-in-WhoIs-clause-ok
returns-in-WhoIs-clause-ok c = rw c.in-WhoIs.is c.write_fields-in-WhoIs.ensures.ok

pub returns-in-IAm-clause-ok : goal.returns-in-IAm-clause-ok
returns-in-IAm-clause-ok c = rw c.in-IAm.is c.write_fields-in-IAm.ensures.ok

pub returns-in-SubscribeCov-clause-ok : goal.returns-in-SubscribeCov-clause-ok
returns-in-SubscribeCov-clause-ok c = rw c.in-SubscribeCov.is c.write_fields-in-SubscribeCov.ensures.ok

pub returns-in-CovNotification-clause-ok : goal.returns-in-CovNotification-clause-ok
returns-in-CovNotification-clause-ok c = rw c.in-CovNotification.is c.write_fields-in-CovNotification.ensures.ok

pub returns-in-WritePropertyMultipleError-clause-ok : goal.returns-in-WritePropertyMultipleError-clause-ok
returns-in-WritePropertyMultipleError-clause-ok c = rw c.in-WritePropertyMultipleError.is c.write_fields-in-WritePropertyMultipleError.ensures.ok

pub returns-in-ReadPropertyMultiple-clause-ok : goal.returns-in-ReadPropertyMultiple-clause-ok
returns-in-ReadPropertyMultiple-clause-ok c = rw c.in-ReadPropertyMultiple.is c.write.ensures.ok

pub returns-in-ReadPropertyMultipleAck-clause-ok : goal.returns-in-ReadPropertyMultipleAck-clause-ok
returns-in-ReadPropertyMultipleAck-clause-ok c = rw c.in-ReadPropertyMultipleAck.is c.write-in-ReadPropertyMultipleAck.ensures.ok

pub returns-in-WritePropertyMultiple-clause-ok : goal.returns-in-WritePropertyMultiple-clause-ok
returns-in-WritePropertyMultiple-clause-ok c = rw c.in-WritePropertyMultiple.is c.write-in-WritePropertyMultiple.ensures.ok

pub returns-in-ServiceError-clause-ok : goal.returns-in-ServiceError-clause-ok
returns-in-ServiceError-clause-ok c = rw c.in-ServiceError.is c.write_cause.ensures.ok

pub returns-in-Opaque-clause-ok : goal.returns-in-Opaque-clause-ok
returns-in-Opaque-clause-ok c = rw c.in-Opaque.is c.write_octets.ensures.ok
