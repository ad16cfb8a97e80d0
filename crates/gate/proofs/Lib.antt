-- Records: what each way through opening and the calls shows, the record's fields turned into the plain gate's words. Unchanged: a record is
-- determined by what it means, so a refused call changes no byte. Chained: calls made in turn on one record are the plain gate's, from the record that
-- opening returned, so `demand_3`.
pub mod Records
pub mod Unchanged
pub mod Chained
