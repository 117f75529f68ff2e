use Rattle.tatp_rows.specs.declared.refusal.Refusal.TheVariants as refusal
use Rattle.hlr_owners.proofs.Common.{Some, None, arith, ◌≡◌, err_from_is_err_and, store_with, store_in}
use Rattle.hlr_owners.proofs.ListingLemmas.{row_found, row_loose}
use Rattle.hlr_owners.proofs.owners.Owners.facility.Goals as goal

pub returns-in-Some : goal.returns-in-Some
returns-in-Some c = record {
  value = row_found c.args.s_id (store_in c.args.self.now) _ _ (Some c.in-Some.row) refusal.NoFacility c.in_ok-holding.ensures.home.home (c.in_ok-holding.ensures.home.facility c.args.sf_type (let low = c.ranges.sf_type.fits in omega arith)) c.in-Some.ensures;
  while_out = λ ks become. let has = c.in_ok-holding.ensures.while_out ks become in row_found c.args.s_id (store_with c.args.self.now ks) _ _ (Some c.in-Some.row) refusal.NoFacility has.home (has.facility c.args.sf_type (let low = c.ranges.sf_type.fits in omega arith)) c.in-Some.ensures;
}

pub returns-in-None : goal.returns-in-None
returns-in-None c = record {
  value = row_found c.args.s_id (store_in c.args.self.now) _ _ None refusal.NoFacility c.in_ok-holding.ensures.home.home (c.in_ok-holding.ensures.home.facility c.args.sf_type (let low = c.ranges.sf_type.fits in omega arith)) c.in-None.ensures;
  while_out = λ ks become. let has = c.in_ok-holding.ensures.while_out ks become in row_found c.args.s_id (store_with c.args.self.now ks) _ _ None refusal.NoFacility has.home (has.facility c.args.sf_type (let low = c.ranges.sf_type.fits in omega arith)) c.in-None.ensures;
}

pub returns-in_err-holding : goal.returns-in_err-holding
returns-in_err-holding c =
    let p = err_from_is_err_and c.from_residual.result c.from_residual.ensures.1 in
    let moving = c.in_err-holding.ensures.moving in
    let why : c.in_err-holding.field-0.0 ≡ refusal.Moving = (let is = moving.0 in cc) in
    rw (p.1, p.2) (record {
      value = row_loose c.args.s_id (store_in c.args.self.now) _ refusal.NoFacility _ moving.1 why;
      while_out = λ ks become. row_loose c.args.s_id (store_with c.args.self.now ks) _ refusal.NoFacility _ moving.1 why;
    })
